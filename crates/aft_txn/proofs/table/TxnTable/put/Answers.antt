use Rattle.std.proofs.Common.{◌≡◌, ◌∙◌, List, None, Some, ap, refl, sym}
use Rattle.std.proofs.lemmas.Result.{on_err_weaker, on_ok_weaker}
use Rattle.aft_model.specs.Attempts.{Row}
use Rattle.aft_txn.specs.Fields.{as_row}
use Rattle.aft_txn.specs.Rows.{Table, row_at, with_put}
use Rattle.aft_txn.proofs.Sound.{put-keeps}
use Rattle.aft_txn.proofs.Tables.{changed-id, changed-set, kept-same, row-none, row-some}
use Rattle.aft_txn.proofs.table.TxnTable.put.Goals as goal
use Rattle.aft_txn.proofs.table.TxnTable.put.Goals.{in-Some, in-None}

pub invariant_of-self : goal.invariant_of-self
invariant_of-self c =
    elim c.match-get_mut.branch [
      | in-Some w ↦ rw (w.self-inside-is, (c.get_mut.follows.holds w.put.new.self).0) (kept-same c.self.invariant c.args.number w.in-Some.txn.now w.put.new.self (sym w.in-Some.ensures.value)
          (put-keeps c.args.key c.args.value (as_row c.args.number w.in-Some.txn.now) (as_row c.args.number w.put.new.self) w.put.result w.put.ensures.refused (on_ok_weaker w.put.result (λ row. row c.args.number) w.put.ensures.ok) (on_err_weaker w.put.result (λ row. row c.args.number) w.put.ensures.err)) w.put.ensures.reads)
      | in-None w ↦ rw (w.self-inside-is, c.get_mut.follows.holds-at-none) c.self.invariant
    ]

pub returns-clause-refused : goal.returns-clause-refused
returns-clause-refused c =
    elim c.match-get_mut.branch [
      | in-Some w ↦ (
          let some : row_at c.args.number c.args.self.now.rows ≡ Some (as_row c.args.number w.in-Some.txn.now) = ap (λ (t : Table). row_at c.args.number t.rows) (sym c.self.view_is) ∙ row-some c.args.number c.self.inside.attempts.entries w.in-Some.txn.now (sym w.in-Some.ensures.value) in
          rw (w.result-is, some) w.put.ensures.refused)
      | in-None w ↦ (
          let none : row_at c.args.number c.args.self.now.rows ≡ None = ap (λ (t : Table). row_at c.args.number t.rows) (sym c.self.view_is) ∙ row-none c.args.number c.self.inside.attempts.entries (sym w.in-None.ensures.value) in
          rw (w.result-is, none) refl)
    ]

pub returns-clause-ok : goal.returns-clause-ok
returns-clause-ok c =
    let table : List Row → Table = λ rows. record { begun = c.self.inside.begun; rows = rows } in
    elim c.match-get_mut.branch [
      | in-Some w ↦ rw (w.result-is, w.self-inside-is, (c.get_mut.follows.holds w.put.new.self).0, ← c.self.view_is)
          (on_ok_weaker w.put.result (λ row. ap table (changed-set c.args.number c.self.inside.attempts.entries w.in-Some.txn.now w.put.new.self (with_put c.args.key c.args.value) (sym w.in-Some.ensures.value) (row c.args.number))) w.put.ensures.ok)
      | in-None w ↦ rw w.result-is tt
    ]

pub returns-clause-err : goal.returns-clause-err
returns-clause-err c =
    let table : List Row → Table = λ rows. record { begun = c.self.inside.begun; rows = rows } in
    elim c.match-get_mut.branch [
      | in-Some w ↦ rw (w.result-is, w.self-inside-is, (c.get_mut.follows.holds w.put.new.self).0, ← c.self.view_is)
          (on_err_weaker w.put.result (λ row. ap table (changed-set c.args.number c.self.inside.attempts.entries w.in-Some.txn.now w.put.new.self (λ (r : Row). r) (sym w.in-Some.ensures.value) (row c.args.number) ∙ changed-id c.args.number _)) w.put.ensures.err)
      | in-None w ↦ rw (w.result-is, w.self-inside-is, c.get_mut.follows.holds-at-none) c.self.view_is
    ]
