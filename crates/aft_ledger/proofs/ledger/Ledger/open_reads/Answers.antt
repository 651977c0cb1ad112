use Rattle.std.proofs.Common.{◌≡◌, List, ap, ◌∙◌}
use Rattle.std.specs.Prelude.{IsTrue, if◌then◌else◌, unwrap_or}
use Rattle.aft_model.specs.declared.node.NodeEntry.{NodeEntry}
use Rattle.aft_model.specs.Attempts.{attempt_state, is_gone, open_reads}
use Rattle.aft_model.specs.NodeState.{node_state, part, serves}
use Rattle.aft_ledger.proofs.Asked.{open_is, shows}
use Rattle.aft_ledger.proofs.Fields.{at_node, held, of_history}
use Rattle.aft_ledger.proofs.ledger.Ledger.open_reads.Goals as goal

pub returns : goal.returns
returns c = shows c.self.inside c.args.self.now c.self.view_is (λ (h : List NodeEntry). c.unwrap_or.result ≡ (if is_gone (attempt_state c.args.attempt.now (part h)) then 0 else open_reads c.args.attempt.now (part h))) (c.unwrap_or.ensures ∙ (ap (λ o. unwrap_or o 0) c.open_reads.ensures ∙ open_is (held c.self.inside) c.self.invariant c.args.attempt.now (at_node c.self.inside c.args.self.now c.self.view_is c.args.attempt.now.node c.requires.node) (of_history c.self.inside c.args.self.now c.self.view_is (λ (h : List NodeEntry). IsTrue (serves c.args.attempt.now.inc (node_state h))) c.requires.serves)))
