use Rattle.std.proofs.Common.{ℕ, subst, sym}
use Rattle.aft_commit.specs.Asks.{may_end_at}
use Rattle.aft_commit.specs.Made.{made_at}
use Rattle.aft_commit.specs.View.{reads_clock_at}
use Rattle.aft_commit.specs.declared.stage.Stage.{Stage}
use Rattle.aft_commit.specs.declared.stage.Stage.TheVariants.{Begins}
use Rattle.aft_turns.specs.Steps.{StepsAtNode}
use Rattle.aft_commit.proofs.nodes.step.Goals as goal

pub returns-in-Begins-clause-steps : goal.returns-in-Begins-clause-steps
returns-in-Begins-clause-steps c clock =
    subst (λ (s : Stage). reads_clock_at s c.args.now clock → may_end_at s c.args.node.now.history → StepsAtNode c.args.by c.args.front (made_at clock c.args.by c.args.hold.now c.args.aborts s) (made_at clock c.args.by c.args.hold.now c.args.aborts c.open.result) c.args.node.now c.open.new.node) (sym c.in-Begins.is)
    (λ reads may. subst (λ (t : ℕ). StepsAtNode c.args.by c.args.front (made_at t c.args.by c.args.hold.now c.args.aborts Begins) (made_at t c.args.by c.args.hold.now c.args.aborts c.open.result) c.args.node.now c.open.new.node) reads c.open.ensures.steps)

pub returns-in-Recorded-clause-steps : goal.returns-in-Recorded-clause-steps
returns-in-Recorded-clause-steps c clock =
    subst (λ (s : Stage). reads_clock_at s c.args.now clock → may_end_at s c.args.node.now.history → StepsAtNode c.args.by c.args.front (made_at clock c.args.by c.args.hold.now c.args.aborts s) (made_at clock c.args.by c.args.hold.now c.args.aborts c.note.result) c.args.node.now c.note.new.node) (sym c.in-Recorded.is)
    (λ reads may. c.note.ensures.steps clock c.args.hold.now c.args.aborts may)

pub returns-in-Doubts-clause-steps : goal.returns-in-Doubts-clause-steps
returns-in-Doubts-clause-steps c clock =
    subst (λ (s : Stage). reads_clock_at s c.args.now clock → may_end_at s c.args.node.now.history → StepsAtNode c.args.by c.args.front (made_at clock c.args.by c.args.hold.now c.args.aborts s) (made_at clock c.args.by c.args.hold.now c.args.aborts c.doubt.result) c.args.node.now c.doubt.new.node) (sym c.in-Doubts.is)
    (λ reads may. c.doubt.ensures.steps clock c.args.hold.now c.args.aborts may)

pub returns-in-Ends-clause-steps : goal.returns-in-Ends-clause-steps
returns-in-Ends-clause-steps c clock =
    subst (λ (s : Stage). reads_clock_at s c.args.now clock → may_end_at s c.args.node.now.history → StepsAtNode c.args.by c.args.front (made_at clock c.args.by c.args.hold.now c.args.aborts s) (made_at clock c.args.by c.args.hold.now c.args.aborts c.end.result) c.args.node.now c.end.new.node) (sym c.in-Ends.is)
    (λ reads may. c.end.ensures.steps clock c.args.hold.now c.args.aborts may)

pub returns-in-ShutOut-clause-steps : goal.returns-in-ShutOut-clause-steps
returns-in-ShutOut-clause-steps c clock =
    subst (λ (s : Stage). reads_clock_at s c.args.now clock → may_end_at s c.args.node.now.history → StepsAtNode c.args.by c.args.front (made_at clock c.args.by c.args.hold.now c.args.aborts s) (made_at clock c.args.by c.args.hold.now c.args.aborts c.shut_out.result) c.args.node.now c.shut_out.new.node) (sym c.in-ShutOut.is)
    (λ reads may. c.shut_out.ensures.steps clock c.args.hold.now c.args.aborts may)
