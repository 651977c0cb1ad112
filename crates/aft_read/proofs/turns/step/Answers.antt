use Rattle.std.proofs.Common.{ap, subst, sym, ◌∙◌}
use Rattle.aft_turns.specs.Steps.{StepsAtNode}
use Rattle.aft_read.specs.Made.{made_at, may_end_at}
use Rattle.aft_read.specs.View.{next_at}
use Rattle.aft_read.specs.declared.stage.Stage.{Stage}
use Rattle.aft_read.specs.declared.stage.Stage.TheVariants.{Comes}
use Rattle.aft_read.proofs.Ending.{one_node}
use Rattle.aft_read.proofs.turns.step.Goals as goal

pub returns-in-Comes-clause-steps : goal.returns-in-Comes-clause-steps
returns-in-Comes-clause-steps c asked =
    let here = one_node c.args.hold.now.node c.args.node.now.number (ap (next_at c.args.hold.now.node) (sym c.in-Comes.is) ∙ c.requires.next) in
    subst (λ (s : Stage). may_end_at s c.args.node.now.history → StepsAtNode c.args.by c.args.front (made_at c.args.node.now.capacity c.args.by c.args.hold.now asked s) (made_at c.args.node.now.capacity c.args.by c.args.hold.now asked c.close.result) c.args.node.now c.close.new.node) (sym c.in-Comes.is)
    (subst (λ (s : Stage). may_end_at (Comes c.in-Comes.attempt c.in-Comes.key c.in-Comes.id c.in-Comes.got c.in-Comes.place) c.args.node.now.history → StepsAtNode c.args.by c.args.front (made_at c.args.node.now.capacity c.args.by c.args.hold.now asked (Comes c.in-Comes.attempt c.in-Comes.key c.in-Comes.id c.in-Comes.got c.in-Comes.place)) (made_at c.args.node.now.capacity c.args.by c.args.hold.now asked s) c.args.node.now c.close.new.node) (sym c.close.ensures.over)
    (c.close.ensures.steps c.args.hold.now asked here))
