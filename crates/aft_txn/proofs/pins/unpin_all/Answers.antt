use Rattle.std.proofs.Common.{◌≡◌, ◌∙◌, ◌-◌, ◌+◌, ◌≤◌, drop}
use Rattle.aft_id.specs.declared.txn_id.TxnId.{TxnId}
use Rattle.aft_txn.specs.Fields.{pairs_at, pin_count}
use Rattle.aft_txn.proofs.Pinned.{counted_here, counted_less}
use Rattle.aft_txn.proofs.pins.unpin_all.Goals as goal

pub unpin-requires-clause-counted : goal.unpin-requires-clause-counted
unpin-requires-clause-counted c =
    let pair = c.pair-item.result in
    counted_here c.args.pairs.now c.loop-pair.pair-index pair (pin_count pair.id c.loop-pair.pins.entries) c.loop-pair-test.true c.pair-item.is (c.loop-pair.invariant.counted pair.id)

pub loop-pair-preserved : goal.loop-pair-preserved
loop-pair-preserved c =
    let left : (q : TxnId) → (pairs_at q (drop (c.loop-pair.pair-index + 1) c.args.pairs.now) ≤ pin_count q c.unpin.new.pins.entries)
    × (pin_count q c.unpin.new.pins.entries - pairs_at q (drop (c.loop-pair.pair-index + 1) c.args.pairs.now) ≡ pin_count q c.loop-pair.pins.entries - pairs_at q (drop c.loop-pair.pair-index c.args.pairs.now)) =
    λ q. counted_less q c.args.pairs.now c.loop-pair.pair-index c.pair-item.result (pin_count q c.loop-pair.pins.entries) (pin_count q c.unpin.new.pins.entries) c.loop-pair-test.true c.pair-item.is (c.loop-pair.invariant.counted q) (c.unpin.ensures.less q) in
    record { needed = c.unpin.ensures.needed; counted = λ q. (left q).0; less = λ q. (left q).1 ∙ c.loop-pair.invariant.less q }
