use Rattle.std.proofs.Common.{◌≡◌, true, subst}
use Rattle.aft_machine.specs.Starved.{Made, StarvedView, made_at, next_of}
use Rattle.aft_machine.proofs.StarvedStands.{steps}
use Rattle.aft_turns.specs.Steps.{StepsAtNode}
use Rattle.aft_turns.specs.declared.turn.Where.TheVariants as places
use Rattle.aft_machine.proofs.starved.Starved.at_node.Goals as goal

pub returns-clause-steps : goal.returns-clause-steps
returns-clause-steps c =
    subst (λ (v : StarvedView). next_of v ≡ places.Node c.args.node.now.number → StepsAtNode v.by c.args.front (Made v) (made_at c.self.inside.by c.self.inside.hold true) c.args.node.now c.answer.new.self) c.self.view_is
    (λ next. steps c.self.inside.by c.self.inside.hold c.self.inside.over c.args.front c.args.node.now c.answer.new.self next c.answer.ensures) c.requires.next
