use Rattle.std.proofs.Common.{◌≡◌, List, ap, sym, ◌∙◌}
use Rattle.std.specs.Prelude.{IfOk, IsFalse, IsTrue, option_copied}
use Rattle.aft_id.specs.declared.txn_id.TxnId.{TxnId}
use Rattle.aft_model.specs.declared.node.NodeEntry.{NodeEntry}
use Rattle.aft_model.specs.Attempts.{attempt_state, is_gone, reads}
use Rattle.aft_model.specs.NodeState.{node_state, part, serves}
use Rattle.aft_model.specs.Origins.{greatest_reads}
use Rattle.aft_ledger.proofs.Asked.{if_ok, reads_are, shows}
use Rattle.aft_ledger.proofs.Fields.{at_node, held, of_history}
use Rattle.aft_ledger.proofs.ledger.Ledger.origin_reads.Goals as goal

pub returns-in-Some : goal.returns-in-Some
returns-in-Some c =
    let its : c.pairs.result.now ≡ reads c.args.attempt.now (part c.self.inside.history.items) = c.pairs.ensures.value ∙ reads_are (held c.self.inside) c.self.invariant c.args.attempt.now (at_node c.self.inside c.args.self.now c.self.view_is c.args.attempt.now.node c.requires.node) (of_history c.self.inside c.args.self.now c.self.view_is (λ (h : List NodeEntry). IsTrue (serves c.args.attempt.now.inc (node_state h))) c.requires.serves) (of_history c.self.inside c.args.self.now c.self.view_is (λ (h : List NodeEntry). IsFalse (is_gone (attempt_state c.args.attempt.now (part h)))) c.requires.there) c.in-Some.reads.now (sym c.reads.ensures ∙ ap option_copied c.in-Some.is) in
    shows c.self.inside c.args.self.now c.self.view_is (λ (h : List NodeEntry). IfOk c.greatest_reads.result (λ (ids : List TxnId). ids ≡ greatest_reads (reads c.args.attempt.now (part h)))) (if_ok c.greatest_reads.result (λ (ids : List TxnId). ids ≡ greatest_reads c.pairs.result.now) (λ (ids : List TxnId). ids ≡ greatest_reads (reads c.args.attempt.now (part c.self.inside.history.items))) (λ ids is. is ∙ ap greatest_reads its) c.greatest_reads.ensures)
