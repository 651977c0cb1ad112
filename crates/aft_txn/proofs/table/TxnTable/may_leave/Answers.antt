use Rattle.std.proofs.Common.{◌≡◌, ◌∙◌, ap, refl, sym, Some, None}
use Rattle.aft_txn.specs.Fields.{as_row}
use Rattle.aft_txn.specs.Rows.{Table, row_at}
use Rattle.aft_txn.proofs.Tables.{row-none, row-some}
use Rattle.aft_txn.proofs.table.TxnTable.may_leave.Goals as goal

pub returns-in-Some : goal.returns-in-Some
returns-in-Some c =
    let txn = c.in-Some.txn.now in
    let some : row_at c.args.number c.args.self.now.rows ≡ Some (as_row c.args.number txn) = ap (λ (t : Table). row_at c.args.number t.rows) (sym c.self.view_is) ∙ row-some c.args.number c.self.inside.attempts.entries txn (sym c.in-Some.ensures.value) in
    rw some c.may_leave.ensures

pub returns-in-None : goal.returns-in-None
returns-in-None c =
    let none : row_at c.args.number c.args.self.now.rows ≡ None = ap (λ (t : Table). row_at c.args.number t.rows) (sym c.self.view_is) ∙ row-none c.args.number c.self.inside.attempts.entries (sym c.in-None.ensures.value) in
    rw none refl
