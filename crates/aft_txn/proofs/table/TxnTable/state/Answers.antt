use Rattle.std.proofs.Common.{◌≡◌, ◌∙◌, ap, refl, sym, Some, None}
use Rattle.aft_txn.specs.Fields.{as_row}
use Rattle.aft_txn.specs.Rows.{Table, row_at}
use Rattle.aft_txn.proofs.Tables.{row-none, row-some, told-in}
use Rattle.aft_txn.proofs.table.TxnTable.state.Goals as goal

pub returns-in_err-get : goal.returns-in_err-get
returns-in_err-get c =
    let none : row_at c.args.number c.args.self.now.rows ≡ None = ap (λ (t : Table). row_at c.args.number t.rows) (sym c.self.view_is) ∙ row-none c.args.number c.self.inside.attempts.entries (sym c.in_err-get.ensures.value) in
    rw (c.from_residual.ensures, none) refl

pub returns : goal.returns
returns c =
    let txn = c.in_ok-get.field-0.now in
    let some : row_at c.args.number c.args.self.now.rows ≡ Some (as_row c.args.number txn) = ap (λ (t : Table). row_at c.args.number t.rows) (sym c.self.view_is) ∙ row-some c.args.number c.self.inside.attempts.entries txn (sym c.in_ok-get.ensures.value) in
    rw some (sym (told-in txn.state (as_row c.args.number txn).writes))
