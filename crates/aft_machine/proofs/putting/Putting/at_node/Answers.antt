use Rattle.std.proofs.Common.{subst}
use Rattle.aft_turns.specs.Steps.{StepsAtNode}
use Rattle.aft_machine.specs.PutMade.{Made, made_at}
use Rattle.aft_machine.specs.PutView.{PutView}
use Rattle.aft_machine.specs.declared.buffering.Stage.{Stage}
use Rattle.aft_machine.proofs.putting.Putting.at_node.Goals as goal

pub returns-clause-steps : goal.returns-clause-steps
returns-clause-steps c =
    subst (λ (v : PutView). StepsAtNode v.by c.args.front (Made v) (Made (record { by = c.self.inside.by; hold = c.self.inside.hold; key = c.self.inside.key.value; value = c.self.inside.value.value; stage = c.step.result })) c.args.node.now c.step.new.node) c.self.view_is
    (subst (λ (s : Stage). StepsAtNode c.self.inside.by c.args.front (made_at c.self.inside.by c.self.inside.hold c.self.inside.key.value c.self.inside.value.value s) (made_at c.self.inside.by c.self.inside.hold c.self.inside.key.value c.self.inside.value.value c.step.result) c.args.node.now c.step.new.node) c.replace-stage.ensures.value
    (c.step.ensures.steps c.self.inside.key.value c.self.inside.value.value))
