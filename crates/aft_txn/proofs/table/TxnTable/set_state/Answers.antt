use Rattle.std.proofs.Common.{List, ap, refl, sym, ◌∙◌}
use Rattle.aft_model.specs.Attempts.{Row}
use Rattle.aft_txn.specs.Fields.{as_row}
use Rattle.aft_txn.specs.Rows.{Table, row_at, with_state}
use Rattle.aft_txn.proofs.Tables.{changed-none, changed-set, kept-same, kept_by, row-some}
use Rattle.aft_txn.proofs.Sound.{state-sound}
use Rattle.aft_txn.proofs.table.TxnTable.set_state.Goals as goal
use Rattle.aft_txn.proofs.table.TxnTable.set_state.Goals.{in-Some, in_default}

pub invariant_of-self : goal.invariant_of-self
invariant_of-self c =
    elim c.match-get_mut.branch [
      | in-Some w ↦ (let new = w.set_state.new.self in rw (w.self-inside-is, (c.get_mut.follows.holds new).0) (kept-same c.self.invariant c.args.number w.in-Some.txn.now new (sym w.in-Some.ensures.value) (kept_by c.args.number w.in-Some.txn.now new (with_state c.args.state) (w.set_state.ensures.row c.args.number) refl (state-sound c.args.state (as_row c.args.number w.in-Some.txn.now) (c.requires (as_row c.args.number w.in-Some.txn.now) (ap (λ (t : Table). row_at c.args.number t.rows) (sym c.self.view_is) ∙ row-some c.args.number c.self.inside.attempts.entries w.in-Some.txn.now (sym w.in-Some.ensures.value))))) w.set_state.ensures.reads))
      | in_default w ↦ rw (w.self-inside-is, c.get_mut.follows.holds-at-none) c.self.invariant
    ]

pub returns : goal.returns
returns c =
    let table : List Row → Table = λ rows. record { begun = c.self.inside.begun; rows = rows } in
    elim c.match-get_mut.branch [
      | in-Some w ↦ (let new = w.set_state.new.self in rw (w.self-inside-is, (c.get_mut.follows.holds new).0, ← c.self.view_is) (ap table (changed-set c.args.number c.self.inside.attempts.entries w.in-Some.txn.now new (with_state c.args.state) (sym w.in-Some.ensures.value) (w.set_state.ensures.row c.args.number))))
      | in_default w ↦ rw (w.self-inside-is, c.get_mut.follows.holds-at-none, ← c.self.view_is) (ap table (sym (changed-none c.args.number c.self.inside.attempts.entries (with_state c.args.state) (sym w.in_default.ensures.value))))
    ]
