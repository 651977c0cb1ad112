use Rattle.std.proofs.Common.{◌≡◌, None, Some, ap, refl, sym, ◌∙◌}
use Rattle.aft_txn.specs.Fields.{as_row}
use Rattle.aft_txn.specs.Rows.{Table, row_of_uuid}
use Rattle.aft_txn.proofs.Tables.{numbered-row, row-none, row-some, told-in, unnumbered}
use Rattle.aft_txn.proofs.table.TxnTable.find.Goals as goal

pub returns-in_err-number-clause-found : goal.returns-in_err-number-clause-found
returns-in_err-number-clause-found c =
    let none : row_of_uuid c.args.uuid c.args.self.now.rows ≡ None = ap (λ (t : Table). row_of_uuid c.args.uuid t.rows) (sym c.self.view_is) ∙ unnumbered c.self.invariant c.args.uuid (sym c.in_err-number.ensures.value) in
    rw (c.from_residual.ensures, none) refl

pub returns-in_err-txn-clause-found : goal.returns-in_err-txn-clause-found
returns-in_err-txn-clause-found c =
    let number = c.in_ok-number.field-0.now in
    let none : row_of_uuid c.args.uuid c.args.self.now.rows ≡ None =
    ap (λ (t : Table). row_of_uuid c.args.uuid t.rows) (sym c.self.view_is) ∙ numbered-row c.self.invariant c.args.uuid number (sym c.in_ok-number.ensures.value) ∙ row-none number c.self.inside.attempts.entries (sym c.in_err-txn.ensures.value) in
    rw (c.from_residual-in_err-txn.ensures, none) refl

pub returns-clause-found : goal.returns-clause-found
returns-clause-found c =
    let number = c.in_ok-number.field-0.now in
    let txn = c.in_ok-txn.txn.now in
    let some : row_of_uuid c.args.uuid c.args.self.now.rows ≡ Some (as_row number txn) =
    ap (λ (t : Table). row_of_uuid c.args.uuid t.rows) (sym c.self.view_is) ∙ numbered-row c.self.invariant c.args.uuid number (sym c.in_ok-number.ensures.value) ∙ row-some number c.self.inside.attempts.entries txn (sym c.in_ok-txn.ensures.value) in
    rw (some, told-in txn.state (as_row number txn).writes) refl
