use Rattle.std.proofs.Common.{◌≡◌, ◌∙◌, List, None, Some, ap, refl, sym}
use Rattle.std.proofs.lemmas.Result.{on_err_weaker, on_ok_weaker}
use Rattle.aft_model.specs.Attempts.{Row}
use Rattle.aft_txn.specs.Fields.{as_row}
use Rattle.aft_txn.specs.Rows.{Table, row_at, with_noted}
use Rattle.aft_txn.proofs.Sound.{read-keeps}
use Rattle.aft_txn.proofs.Tables.{changed-id, changed-set, kept-set, row-none, row-some}
use Rattle.aft_txn.proofs.table.TxnTable.note_read.Goals as goal

pub note_read-requires-clause-same : goal.note_read-requires-clause-same
note_read-requires-clause-same c =
    let some : row_at c.args.number c.args.self.now.rows ≡ Some (as_row c.args.number c.in-Some.txn.now) = ap (λ (t : Table). row_at c.args.number t.rows) (sym c.self.view_is) ∙ row-some c.args.number c.self.inside.attempts.entries c.in-Some.txn.now (sym c.in-Some.ensures.value) in
    c.requires.same (as_row c.args.number c.in-Some.txn.now) some

pub note_read-requires-clause-left : goal.note_read-requires-clause-left
note_read-requires-clause-left c =
    let some : row_at c.args.number c.args.self.now.rows ≡ Some (as_row c.args.number c.in-Some.txn.now) = ap (λ (t : Table). row_at c.args.number t.rows) (sym c.self.view_is) ∙ row-some c.args.number c.self.inside.attempts.entries c.in-Some.txn.now (sym c.in-Some.ensures.value) in
    c.requires.open (as_row c.args.number c.in-Some.txn.now) some

pub invariant_of-self : goal.invariant_of-self
invariant_of-self c = rw (c.get_mut.follows.holds c.note_read.new.self).0 (kept-set c.self.invariant c.args.number c.in-Some.txn.now c.note_read.new.self c.note_read.new.pins.entries (sym c.in-Some.ensures.value)
    (read-keeps c.args.key c.args.id c.args.fetch (as_row c.args.number c.in-Some.txn.now) (as_row c.args.number c.note_read.new.self) c.note_read.result (on_ok_weaker c.note_read.result (λ row. row c.args.number) c.note_read.ensures.ok) (on_err_weaker c.note_read.result (λ row. row c.args.number) c.note_read.ensures.err)) c.note_read.ensures.needed c.note_read.ensures.counted)

pub returns-in-Some-clause-refused : goal.returns-in-Some-clause-refused
returns-in-Some-clause-refused c =
    let some : row_at c.args.number c.args.self.now.rows ≡ Some (as_row c.args.number c.in-Some.txn.now) = ap (λ (t : Table). row_at c.args.number t.rows) (sym c.self.view_is) ∙ row-some c.args.number c.self.inside.attempts.entries c.in-Some.txn.now (sym c.in-Some.ensures.value) in
    rw some c.note_read.ensures.refused

pub returns-in-Some-clause-ok : goal.returns-in-Some-clause-ok
returns-in-Some-clause-ok c =
    let table : List Row → Table = λ rows. record { begun = c.self.inside.begun; rows = rows } in
    rw ((c.get_mut.follows.holds c.note_read.new.self).0, ← c.self.view_is)
    (on_ok_weaker c.note_read.result (λ row. ap table (changed-set c.args.number c.self.inside.attempts.entries c.in-Some.txn.now c.note_read.new.self (with_noted c.args.key c.args.id c.args.fetch) (sym c.in-Some.ensures.value) (row c.args.number))) c.note_read.ensures.ok)

pub returns-in-Some-clause-err : goal.returns-in-Some-clause-err
returns-in-Some-clause-err c =
    let table : List Row → Table = λ rows. record { begun = c.self.inside.begun; rows = rows } in
    rw ((c.get_mut.follows.holds c.note_read.new.self).0, ← c.self.view_is)
    (on_err_weaker c.note_read.result (λ row. ap table (changed-set c.args.number c.self.inside.attempts.entries c.in-Some.txn.now c.note_read.new.self (λ (r : Row). r) (sym c.in-Some.ensures.value) (row c.args.number) ∙ changed-id c.args.number _)) c.note_read.ensures.err)

pub returns-in-None-clause-refused : goal.returns-in-None-clause-refused
returns-in-None-clause-refused c =
    let none : row_at c.args.number c.args.self.now.rows ≡ None = ap (λ (t : Table). row_at c.args.number t.rows) (sym c.self.view_is) ∙ row-none c.args.number c.self.inside.attempts.entries (sym c.in-None.ensures.value) in
    rw none refl
