use Rattle.std.proofs.Common.{◌≡◌, not, take}
use Rattle.std.specs.Prelude.{filter}
use Rattle.aft_txn.specs.Rows.{is_pinned_in}
use Rattle.aft_ledger.proofs.ledger.known.loose.Given as goal

abbrev pub invariant-loop-id : goal.invariant-loop-id
invariant-loop-id l = l.dropped.items ≡ filter (λ id. not (is_pinned_in id l.table.rows)) (take l.id-index l.ids)
