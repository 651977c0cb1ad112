use Rattle.std.proofs.Common.{List, ap, refl, sym}
use Rattle.aft_model.specs.Attempts.{Row}
use Rattle.aft_txn.specs.Fields.{as_row}
use Rattle.aft_txn.specs.Rows.{Table, settled}
use Rattle.aft_txn.proofs.Tables.{changed-none, changed-set, kept-same, kept_by}
use Rattle.aft_txn.proofs.Sound.{settled-sound}
use Rattle.aft_txn.proofs.table.TxnTable.settle.Goals as goal
use Rattle.aft_txn.proofs.table.TxnTable.settle.Goals.{in-Some, in_default}

pub invariant_of-self : goal.invariant_of-self
invariant_of-self c =
    elim c.match-get_mut.branch [
      | in-Some w ↦ (let new = w.settle.new.self in rw (w.self-inside-is, (c.get_mut.follows.holds new).0) (kept-same c.self.invariant c.args.number w.in-Some.txn.now new (sym w.in-Some.ensures.value) (kept_by c.args.number w.in-Some.txn.now new settled (w.settle.ensures.row c.args.number) refl (settled-sound (as_row c.args.number w.in-Some.txn.now))) w.settle.ensures.reads))
      | in_default w ↦ rw (w.self-inside-is, c.get_mut.follows.holds-at-none) c.self.invariant
    ]

pub returns : goal.returns
returns c =
    let table : List Row → Table = λ rows. record { begun = c.self.inside.begun; rows = rows } in
    elim c.match-get_mut.branch [
      | in-Some w ↦ (let new = w.settle.new.self in rw (w.self-inside-is, (c.get_mut.follows.holds new).0, ← c.self.view_is) (ap table (changed-set c.args.number c.self.inside.attempts.entries w.in-Some.txn.now new settled (sym w.in-Some.ensures.value) (w.settle.ensures.row c.args.number))))
      | in_default w ↦ rw (w.self-inside-is, c.get_mut.follows.holds-at-none, ← c.self.view_is) (ap table (sym (changed-none c.args.number c.self.inside.attempts.entries settled (sym w.in_default.ensures.value))))
    ]
