use Rattle.std.proofs.Common.{arith, ◌∙◌}
use Rattle.aft_step.proofs.Courses.{moves_on}
use Rattle.aft_step.proofs.client.Client.run_out.Goals as goal
use Rattle.aft_step.specs.Worlds.{shown}

pub turn-requires-clause-stands : goal.turn-requires-clause-stands
turn-requires-clause-stands g c =
    let it = c.requires.stands in
    let moves = c.loop-alloc.invariant.goes it.0 it.1 it.2 it.3 in
    (it.0, moves.later, moves.now, moves.driven)

pub loop-alloc-preserved : goal.loop-alloc-preserved
loop-alloc-preserved g c = record {
  number = c.turn.ensures.number ∙ c.loop-alloc.invariant.number;
  at = (let one = c.turn.ensures.at in let before = c.loop-alloc.invariant.at in omega arith);
  reach = c.turn.ensures.reach ∙ c.loop-alloc.invariant.reach;
  goes = λ asked stand seats driven.
      let moves = c.loop-alloc.invariant.goes asked stand seats driven in
      moves_on asked stand seats c.args.self.now (shown c.loop-alloc.world.door c.loop-alloc.world.nodes c.loop-alloc.world.boxes c.loop-alloc.world.office) c.loop-alloc.self moves c.loop-alloc.invariant.number
      (shown c.turn.new.world.door c.turn.new.world.nodes c.turn.new.world.boxes c.turn.new.world.office) c.turn.new.self (c.turn.ensures.goes asked moves.later moves.now moves.driven);
  store = record { contents = c.turn.ensures.store.contents ∙ c.loop-alloc.invariant.store.contents; log = c.turn.ensures.store.log ∙ c.loop-alloc.invariant.store.log };
}
