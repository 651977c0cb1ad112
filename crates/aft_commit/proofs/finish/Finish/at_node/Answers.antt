use Rattle.std.proofs.Common.{subst}
use Rattle.aft_commit.specs.Asks.{MayEnd, may_end_at}
use Rattle.aft_commit.specs.Made.{Made, made_at}
use Rattle.aft_commit.specs.View.{FinishView, ReadsClock, reads_clock_at}
use Rattle.aft_commit.specs.declared.stage.Stage.{Stage}
use Rattle.aft_turns.specs.Steps.{StepsAtNode}
use Rattle.aft_commit.proofs.finish.Finish.at_node.Goals as goal

pub returns-clause-steps : goal.returns-clause-steps
returns-clause-steps c clock =
    subst (λ (v : FinishView). ReadsClock v c.args.now clock → MayEnd v c.args.node.now.history → StepsAtNode v.by c.args.front (Made clock v) (Made clock (record { by = c.self.inside.by; hold = c.self.inside.hold; aborts = c.self.inside.aborts; stage = c.step.result })) c.args.node.now c.step.new.node) c.self.view_is
    (subst (λ (s : Stage). reads_clock_at s c.args.now clock → may_end_at s c.args.node.now.history → StepsAtNode c.self.inside.by c.args.front (made_at clock c.self.inside.by c.self.inside.hold c.self.inside.aborts s) (made_at clock c.self.inside.by c.self.inside.hold c.self.inside.aborts c.step.result) c.args.node.now c.step.new.node) c.replace-stage.ensures.value
    (c.step.ensures.steps clock))
