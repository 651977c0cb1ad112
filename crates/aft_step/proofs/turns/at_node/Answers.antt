use Rattle.std.proofs.Common.{◌≡◌, ◌-◌, List, ap, slice_get, slice_set, subst, ◌∙◌}
use Rattle.std.proofs.lemmas.Option.{get_or_from_slice_get}
use Rattle.aft_ledger.specs.View.{NodeView}
use Rattle.aft_machine.specs.Asks.{MayEnd}
use Rattle.aft_machine.specs.OneNode.{by_of, made_of}
use Rattle.aft_turns.specs.Steps.{StepsAtNode}
use Rattle.aft_step.proofs.turns.at_node.Goals as goal

pub returns-clause-steps : goal.returns-clause-steps
returns-clause-steps c node there =
    let same : c.into_vec-taken.result.items ≡ c.args.nodes.now = c.into_vec-taken.ensures ∙ c.replace.ensures.value in
    let its : c.index_mut-node.result.now ≡ node = c.index_mut-node.ensures.value ∙ get_or_from_slice_get c.into_vec-taken.result.items (c.args.number - 1) node c.index_mut-node.result.now (ap (λ (l : List NodeView). slice_get l (c.args.number - 1)) same ∙ there) in (
      c.at_node.new.node,
      c.from_vec-2.ensures ∙ ap (λ (l : List NodeView). slice_set l (c.args.number - 1) c.at_node.new.node) same,
      c.law.ensures.legal,
      λ clock. subst (λ (n : NodeView). MayEnd c.args.now clock c.args.machine.now n.history → StepsAtNode (by_of c.args.machine.now) c.args.front (made_of n.capacity clock c.args.machine.now) (made_of n.capacity clock c.at_node.new.self) n c.at_node.new.node) its (c.at_node.ensures.steps clock),
    )
