use Rattle.std.proofs.Common.{◌≡◌, ◌∙◌, List, Some, ap, refl, sym, arith}
use Rattle.aft_model.specs.Attempts.{Row}
use Rattle.std.proofs.lemmas.Bool.Decides.{nat_tests}
use Rattle.aft_txn.specs.Fields.{as_row}
use Rattle.aft_txn.specs.Rows.{Table, ended_read, row_at}
use Rattle.aft_txn.proofs.Tables.{changed-none, changed-set, kept-same, kept_by, row-some}
use Rattle.aft_txn.proofs.table.TxnTable.end_read.Goals as goal
use Rattle.aft_txn.proofs.table.TxnTable.end_read.Goals.{in-Some, in_default}

pub end_read-requires : goal.end_read-requires
end_read-requires c =
    let txn = c.in-Some.txn.now in
    let some : row_at c.args.number c.args.self.now.rows ≡ Some (as_row c.args.number txn) = ap (λ (t : Table). row_at c.args.number t.rows) (sym c.self.view_is) ∙ row-some c.args.number c.self.inside.attempts.entries txn (sym c.in-Some.ensures.value) in
    let above = rw some at c.requires in
    grind (arith, nat_tests, above)

pub invariant_of-self : goal.invariant_of-self
invariant_of-self c =
    elim c.match-get_mut.branch [
      | in-Some w ↦ (let new = w.end_read.new.self in rw (w.self-inside-is, (c.get_mut.follows.holds new).0) (kept-same c.self.invariant c.args.number w.in-Some.txn.now new (sym w.in-Some.ensures.value) (kept_by c.args.number w.in-Some.txn.now new ended_read (w.end_read.ensures.row c.args.number) refl (λ sound. sound)) w.end_read.ensures.reads))
      | in_default w ↦ rw (w.self-inside-is, c.get_mut.follows.holds-at-none) c.self.invariant
    ]

pub returns : goal.returns
returns c =
    let table : List Row → Table = λ rows. record { begun = c.self.inside.begun; rows = rows } in
    elim c.match-get_mut.branch [
      | in-Some w ↦ (let new = w.end_read.new.self in rw (w.self-inside-is, (c.get_mut.follows.holds new).0, ← c.self.view_is) (ap table (changed-set c.args.number c.self.inside.attempts.entries w.in-Some.txn.now new ended_read (sym w.in-Some.ensures.value) (w.end_read.ensures.row c.args.number))))
      | in_default w ↦ rw (w.self-inside-is, c.get_mut.follows.holds-at-none, ← c.self.view_is) (ap table (sym (changed-none c.args.number c.self.inside.attempts.entries ended_read (sym w.in_default.ensures.value))))
    ]
