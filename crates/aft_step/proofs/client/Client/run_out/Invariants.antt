use Rattle.std.proofs.Common.{◌≡◌, ◌≤◌, ℕ}
use Rattle.aft_lines.specs.Asked.{Asked}
use Rattle.aft_model.specs.declared.script.Line.{Line}
use Rattle.aft_step.specs.Moving.{Moves, reach, turns_left}
use Rattle.aft_step.specs.Sitting.{Driven}
use Rattle.aft_step.specs.Worlds.{shown}
use Rattle.aft_turns.specs.Steps.{SameStore}
use Rattle.law_accounts.specs.Account.{Stand}
use Rattle.law_clients.specs.Clients.{Seat}
use Rattle.aft_step.proofs.client.Client.run_out.Given as goal

abbrev pub invariant-loop-alloc : goal.invariant-loop-alloc
invariant-loop-alloc g l = record {
  number : l.self.number ≡ l.initial.self.number;
  at : l.initial.self.at ≤ l.self.at;
  reach : reach l.self.running l.self.at ≡ reach l.initial.self.running l.initial.self.at;
  goes : (asked : Asked) (stand : Line → Stand) (seats : ℕ → Seat) → Driven asked stand seats (shown l.initial.world.door l.initial.world.nodes l.initial.world.boxes l.initial.world.office) l.initial.self
      → Moves asked stand seats l.initial.self (shown l.world.door l.world.nodes l.world.boxes l.world.office) l.self;
  store : SameStore l.initial.world.door l.world.door;
}

abbrev pub decreases-loop-alloc : goal.decreases-loop-alloc
decreases-loop-alloc g l = turns_left l.self.running
