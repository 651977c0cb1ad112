use Rattle.aft_txn.specs.Fields.{pin_count}
use Rattle.aft_txn.proofs.Pinned.{counted_more}
use Rattle.aft_txn.proofs.pins.add_pinned.Goals as goal

pub returns-in-Ok-clause-counted : goal.returns-in-Ok-clause-counted
returns-in-Ok-clause-counted c q =
    rw c.in-Ok.ensures.ok (counted_more q c.args.reads.now (record { key = c.args.key; id = c.args.id.now }) (pin_count q c.args.pins.now.entries) (pin_count q c.pin.new.pins.entries) (c.in_ok-pin.ensures.ok q))
