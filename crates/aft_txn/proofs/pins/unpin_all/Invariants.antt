use Rattle.std.proofs.Common.{◌≡◌, ◌-◌, ◌≤◌, drop}
use Rattle.aft_id.specs.declared.txn_id.TxnId.{TxnId}
use Rattle.aft_txn.specs.Fields.{AreNeeded, pairs_at, pin_count}
use Rattle.aft_txn.proofs.pins.unpin_all.Given as goal

-- what is left is counted, and the end comes out the same
abbrev pub invariant-loop-pair : goal.invariant-loop-pair
invariant-loop-pair l = record {
  needed : AreNeeded l.pins.entries;
  counted : (q : TxnId) → pairs_at q (drop l.pair-index l.pairs) ≤ pin_count q l.pins.entries;
  less : (q : TxnId) → pin_count q l.pins.entries - pairs_at q (drop l.pair-index l.pairs) ≡ pin_count q l.initial.pins.entries - pairs_at q l.pairs;
}
