use Rattle.std.proofs.Common.{◌≡◌, []}
use Rattle.aft_lines.specs.Asked.{Asked}
use Rattle.aft_step.specs.Crowding.{ComesTo}
use Rattle.aft_step.specs.Worlds.{shown}
use Rattle.aft_turns.specs.Steps.{SameStore}
use Rattle.aft_step.proofs.stepping.finish_all.Given as goal

abbrev pub invariant-loop-index : goal.invariant-loop-index
invariant-loop-index g l =
    ((asked : Asked) → asked.script.lines ≡ l.lines → asked.clock ≡ g.C.Clock.time l.clock
    → ComesTo asked [] 0 (shown l.initial.world.door l.initial.world.nodes l.initial.world.boxes l.initial.world.office) l.initial.clients
    → ComesTo asked [] l.index (shown l.world.door l.world.nodes l.world.boxes l.world.office) l.clients)
    × SameStore l.initial.world.door l.world.door
