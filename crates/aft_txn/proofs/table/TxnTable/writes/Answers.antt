use Rattle.std.proofs.Common.{◌≡◌, ◌∙◌, List, Some, ap, map, sym, subst}
use Rattle.std.specs.List.{each_same}
use Rattle.aft_txn.specs.Buffer.{as_write}
use Rattle.aft_txn.specs.declared.buffer.Write.{Write}
use Rattle.std.specs.Prelude.{IsSome, option_copied}
use Rattle.aft_txn.specs.Fields.{as_row}
use Rattle.aft_txn.specs.Rows.{IsLegal, Table, row_at}
use Rattle.aft_txn.proofs.Tables.{found, row-some, some-by, told_writes}
use Rattle.aft_txn.proofs.table.TxnTable.writes.Goals as goal

pub unwrap-txn-requires : goal.unwrap-txn-requires
unwrap-txn-requires c = some-by c.get.result _ c.get.ensures.value (found c.args.number c.self.inside.attempts.entries (subst (λ (t : Table). IsSome (row_at c.args.number t.rows)) (sym c.self.view_is) c.requires))

pub returns-clause-writes : goal.returns-clause-writes
returns-clause-writes c =
    let txn = c.unwrap-txn.result.now in
    let some : row_at c.args.number c.args.self.now.rows ≡ Some (as_row c.args.number txn) = ap (λ (t : Table). row_at c.args.number t.rows) (sym c.self.view_is) ∙ row-some c.args.number c.self.inside.attempts.entries txn (sym c.get.ensures.value ∙ ap option_copied c.unwrap-txn.ensures) in
    rw some (ap (λ (ws : List Write). Some (map as_write ws)) (sym c.as_slice.ensures.value ∙ sym (each_same c.as_slice.result.now c.in_ok-from_clones.field-0.items c.in_ok-from_clones.ensures.items) ∙ sym c.from_vec.ensures))

pub returns-clause-in_order : goal.returns-clause-in_order
returns-clause-in_order c = (told_writes c.args.number c.args.self.now.rows _ (subst IsLegal c.self.view_is c.self.invariant.legal).sound (returns-clause-writes c)).0

pub returns-clause-few : goal.returns-clause-few
returns-clause-few c = (told_writes c.args.number c.args.self.now.rows _ (subst IsLegal c.self.view_is c.self.invariant.legal).sound (returns-clause-writes c)).1
