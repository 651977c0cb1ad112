use Rattle.std.proofs.Common.{◌≡◌, ◌∙◌, map, ap}
use Rattle.aft_model.specs.Attempts.{Write as Said, buffer}
use Rattle.aft_model.specs.NodeState.{part}
use Rattle.aft_ledger.specs.View.{NodeView}
use Rattle.aft_ledger.proofs.Asked.{if_ok}
use Rattle.aft_node.specs.Committing.{values_of}
use Rattle.aft_node.proofs.Ends.{values_as}
use Rattle.aft_txn.specs.declared.buffer.Write.{Write}
use Rattle.aft_node.proofs.node.Node.values.Goals as goal

pub returns : goal.returns
returns c = if_ok c.values_of.result (λ values. values ≡ map (λ (write : Write). write.value) c.in_ok-writes.writes) (λ values. values ≡ values_of c.args.attempt.now c.args.self.now)
    (λ values is. is ∙ (values_as c.in_ok-writes.writes ∙ (ap (map (λ (write : Said). write.value)) c.in_ok-writes.ensures ∙ ap (λ (v : NodeView). map (λ (write : Said). write.value) (buffer c.args.attempt.now (part v.history))) c.self.view_is))) c.values_of.ensures
