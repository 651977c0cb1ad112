use Rattle.std.proofs.Common.{◌∙◌, ◌-◌, List, ap, sym}
use Rattle.aft_model.specs.Attempts.{Row}
use Rattle.aft_model.specs.declared.read_set.ReadPair.{ReadPair}
use Rattle.aft_txn.specs.Fields.{pairs_at, pin_count}
use Rattle.aft_txn.specs.Rows.{Table}
use Rattle.aft_txn.proofs.Tables.{counted_in, kept-removed, removed}
use Rattle.aft_txn.proofs.table.TxnTable.end.Goals as goal

pub unpin_all-requires-clause-counted : goal.unpin_all-requires-clause-counted
unpin_all-requires-clause-counted c q = rw c.pairs.ensures.value (counted_in c.self.invariant c.args.number c.in-Some.txn (sym c.in-Some.ensures.value) q)

pub invariant_of-self : goal.invariant_of-self
invariant_of-self c =
    rw c.shift_remove.ensures.entries
    (kept-removed c.self.invariant c.args.number c.in-Some.txn c.swap_remove.new.self.entries c.unpin_all.new.pins.entries (sym c.in-Some.ensures.value) (λ u. c.swap_remove.ensures.updates.0 u) c.unpin_all.ensures.needed (λ q. c.unpin_all.ensures.less q ∙ ap (λ (pairs : List ReadPair). pin_count q c.self.inside.pins.entries - pairs_at q pairs) c.pairs.ensures.value))

pub returns-in-Some : goal.returns-in-Some
returns-in-Some c =
    let table : List Row → Table = λ rows. record { begun = c.self.inside.begun; rows = rows } in
    rw (c.shift_remove.ensures.entries, ← c.self.view_is) (ap table (removed c.args.number c.self.inside.attempts.entries))

pub returns-in_default : goal.returns-in_default
returns-in_default c =
    let table : List Row → Table = λ rows. record { begun = c.self.inside.begun; rows = rows } in
    rw (c.shift_remove.ensures.entries, ← c.self.view_is) (ap table (removed c.args.number c.self.inside.attempts.entries))
