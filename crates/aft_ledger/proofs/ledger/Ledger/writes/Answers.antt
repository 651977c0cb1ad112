use Rattle.std.proofs.Common.{◌≡◌, List, refl, sym, subst, map}
use Rattle.std.specs.Prelude.{IsFalse, IsTrue, Option, Some, option_map}
use Rattle.aft_model.specs.declared.node.NodeEntry.{NodeEntry}
use Rattle.aft_model.specs.Attempts.{Row, attempt_state, buffer, is_gone}
use Rattle.aft_model.specs.NodeState.{node_state, part, serves}
use Rattle.aft_ledger.proofs.Asked.{if_ok, shows, writes_are}
use Rattle.aft_ledger.proofs.Fields.{at_node, held, of_history}
use Rattle.std.specs.Prelude.{IsSome}
use Rattle.aft_ledger.proofs.Acts.{row_here}
use Rattle.aft_txn.specs.Buffer.{as_write}
use Rattle.aft_txn.specs.Rows.{row_at}
use Rattle.aft_ledger.proofs.ledger.Ledger.writes.Goals as goal

pub writes-requires : goal.writes-requires
writes-requires c = subst (λ (o : Option Row). IsSome o) (sym (row_here (held c.self.inside) c.self.invariant c.args.attempt.now (at_node c.self.inside c.args.self.now c.self.view_is c.args.attempt.now.node c.requires.node) (of_history c.self.inside c.args.self.now c.self.view_is (λ (h : List NodeEntry). IsTrue (serves c.args.attempt.now.inc (node_state h))) c.requires.serves) (of_history c.self.inside c.args.self.now c.self.view_is (λ (h : List NodeEntry). IsFalse (is_gone (attempt_state c.args.attempt.now (part h)))) c.requires.there))) refl

pub returns : goal.returns
returns c = if_ok c.writes.result (λ writes. option_map (λ (row : Row). row.writes) (row_at c.args.attempt.now.number c.self.inside.table.rows) ≡ Some (map as_write writes)) (λ writes. map as_write writes ≡ buffer c.args.attempt.now (part c.args.self.now.history))
    (λ writes is. shows c.self.inside c.args.self.now c.self.view_is (λ (h : List NodeEntry). map as_write writes ≡ buffer c.args.attempt.now (part h)) (writes_are (held c.self.inside) c.self.invariant c.args.attempt.now (at_node c.self.inside c.args.self.now c.self.view_is c.args.attempt.now.node c.requires.node) (of_history c.self.inside c.args.self.now c.self.view_is (λ (h : List NodeEntry). IsTrue (serves c.args.attempt.now.inc (node_state h))) c.requires.serves) (of_history c.self.inside c.args.self.now c.self.view_is (λ (h : List NodeEntry). IsFalse (is_gone (attempt_state c.args.attempt.now (part h)))) c.requires.there) (map as_write writes) is)) c.writes.ensures.writes
