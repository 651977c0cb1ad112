use Rattle.std.proofs.Common.{subst, sym}
use Rattle.aft_turns.specs.Steps.{StepsAtNode}
use Rattle.aft_machine.specs.PutMade.{made_at}
use Rattle.aft_machine.specs.declared.buffering.Stage.{Stage}
use Rattle.aft_machine.specs.declared.buffering.Stage.TheVariants.{Begins}
use Rattle.aft_machine.proofs.buffering.step.Goals as goal

pub returns-in-Begins-clause-steps : goal.returns-in-Begins-clause-steps
returns-in-Begins-clause-steps c key value =
    subst (λ (s : Stage). StepsAtNode c.args.by c.args.front (made_at c.args.by c.args.hold.now key value s) (made_at c.args.by c.args.hold.now key value c.put.result) c.args.node.now c.put.new.node) (sym c.in-Begins.is)
    (subst (λ (s : Stage). StepsAtNode c.args.by c.args.front (made_at c.args.by c.args.hold.now key value (Begins c.in-Begins.key c.in-Begins.value)) (made_at c.args.by c.args.hold.now key value s) c.args.node.now c.put.new.node) (sym c.put.ensures.over)
    (c.put.ensures.steps key value))
