use Rattle.std.proofs.Common.{◌≡◌, ◌∙◌, ap, refl, sym, Some, None}
use Rattle.aft_txn.specs.Fields.{as_row}
use Rattle.aft_txn.specs.Rows.{Table, row_at}
use Rattle.aft_txn.proofs.Tables.{own-at, row-none, row-some}
use Rattle.aft_txn.proofs.table.TxnTable.next_id.Goals as goal

pub returns-in-Some-clause-refused : goal.returns-in-Some-clause-refused
returns-in-Some-clause-refused c =
    let txn = c.in-Some.txn.now in
    let some : row_at c.args.number c.args.self.now.rows ≡ Some (as_row c.args.number txn) = ap (λ (t : Table). row_at c.args.number t.rows) (sym c.self.view_is) ∙ row-some c.args.number c.self.inside.attempts.entries txn (sym c.in-Some.ensures.value) in
    rw some c.next_id.ensures.refused

pub returns-in-Some-clause-id : goal.returns-in-Some-clause-id
returns-in-Some-clause-id c =
    let txn = c.in-Some.txn.now in
    let some : row_at c.args.number c.args.self.now.rows ≡ Some (as_row c.args.number txn) = ap (λ (t : Table). row_at c.args.number t.rows) (sym c.self.view_is) ∙ row-some c.args.number c.self.inside.attempts.entries txn (sym c.in-Some.ensures.value) in
    rw some c.next_id.ensures.id

pub returns-in-None-clause-refused : goal.returns-in-None-clause-refused
returns-in-None-clause-refused c =
    let none : row_at c.args.number c.args.self.now.rows ≡ None = ap (λ (t : Table). row_at c.args.number t.rows) (sym c.self.view_is) ∙ row-none c.args.number c.self.inside.attempts.entries (sym c.in-None.ensures.value) in
    rw none refl

pub returns-in-Some-clause-own : goal.returns-in-Some-clause-own
returns-in-Some-clause-own c =
    let txn = c.in-Some.txn.now in
    let some : row_at c.args.number c.args.self.now.rows ≡ Some (as_row c.args.number txn) = ap (λ (t : Table). row_at c.args.number t.rows) (sym c.self.view_is) ∙ row-some c.args.number c.self.inside.attempts.entries txn (sym c.in-Some.ensures.value) in
    own-at (row_at c.args.number c.args.self.now.rows) (as_row c.args.number txn) c.next_id.result some c.next_id.ensures.own
