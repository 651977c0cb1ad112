use Rattle.std.proofs.Common.{subst}
use Rattle.aft_turns.specs.Steps.{StepsAtNode}
use Rattle.aft_read.specs.Made.{Made, MayEnd, made_at, may_end_at}
use Rattle.aft_read.specs.View.{ReadView}
use Rattle.aft_read.specs.declared.stage.Stage.{Stage}
use Rattle.aft_read.proofs.read.Read.at_node.Goals as goal

pub returns-clause-steps : goal.returns-clause-steps
returns-clause-steps c =
    subst (λ (v : ReadView). MayEnd v c.args.node.now.history → StepsAtNode v.by c.args.front (Made c.args.node.now.capacity v) (Made c.args.node.now.capacity (record { by = c.self.inside.by; hold = c.self.inside.hold; key = c.self.inside.asked.value; stage = c.step.result })) c.args.node.now c.step.new.node) c.self.view_is
    (subst (λ (s : Stage). may_end_at s c.args.node.now.history → StepsAtNode c.self.inside.by c.args.front (made_at c.args.node.now.capacity c.self.inside.by c.self.inside.hold c.self.inside.asked.value s) (made_at c.args.node.now.capacity c.self.inside.by c.self.inside.hold c.self.inside.asked.value c.step.result) c.args.node.now c.step.new.node) c.replace-stage.ensures.value
    (c.step.ensures.steps c.self.inside.asked.value))
