use Rattle.std.proofs.Common.{◌≡◌, List, ap, sym, ◌∙◌}
use Rattle.std.specs.Prelude.{IsTrue}
use Rattle.aft_model.specs.declared.node.NodeEntry.{NodeEntry}
use Rattle.aft_model.specs.Attempts.{attempt_state, buffer, written_keys}
use Rattle.aft_model.specs.NodeRules.{is_storing}
use Rattle.aft_model.specs.NodeState.{node_state, part, serves}
use Rattle.aft_ledger.specs.Holding.{stores_in}
use Rattle.aft_ledger.specs.Ledger.{LedgerView}
use Rattle.aft_ledger.proofs.Acts.{state_is}
use Rattle.aft_ledger.proofs.Asked.{shows, stores_is}
use Rattle.aft_ledger.proofs.Fields.{at_node, held, of_history}
use Rattle.aft_ledger.proofs.ledger.Ledger.is_storing.Goals as goal

pub returns : goal.returns
returns c =
    let keys : c.as_slice.result.now ≡ written_keys (buffer c.args.attempt.now (part c.self.inside.history.items)) =
    c.as_slice.ensures ∙ (c.in_ok-keys.ensures ∙ sym (ap (λ (v : LedgerView). written_keys (buffer c.args.attempt.now (part v.history))) c.self.view_is)) in
    shows c.self.inside c.args.self.now c.self.view_is (λ (h : List NodeEntry). c.is_stored_by.result ≡ is_storing c.args.commit.now (attempt_state c.args.attempt.now (part h)))
    (c.is_stored_by.ensures ∙ (ap (stores_in c.state.result c.args.commit.now) keys
    ∙ (ap (λ s. stores_in s c.args.commit.now (written_keys (buffer c.args.attempt.now (part c.self.inside.history.items)))) (c.state.ensures ∙ state_is (held c.self.inside) c.self.invariant c.args.attempt.now (at_node c.self.inside c.args.self.now c.self.view_is c.args.attempt.now.node c.requires.node) (of_history c.self.inside c.args.self.now c.self.view_is (λ (h : List NodeEntry). IsTrue (serves c.args.attempt.now.inc (node_state h))) c.requires.serves))
    ∙ stores_is (held c.self.inside) c.self.invariant c.args.attempt.now (at_node c.self.inside c.args.self.now c.self.view_is c.args.attempt.now.node c.requires.node) (of_history c.self.inside c.args.self.now c.self.view_is (λ (h : List NodeEntry). IsTrue (serves c.args.attempt.now.inc (node_state h))) c.requires.serves) c.args.commit.now)))
