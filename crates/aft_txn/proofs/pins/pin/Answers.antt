use Rattle.std.proofs.Common.{◌<◌, Some, arith}
use Rattle.aft_txn.proofs.Pinned.{needed_after, positive}
use Rattle.aft_txn.proofs.pins.pin.Goals as goal

pub returns-clause-needed : goal.returns-clause-needed
returns-clause-needed c =
    let one_more = rw c.in_ok-more.ensures.ok_part at c.checked_add.ensures in
    let above : 0 < c.in_ok-more.more = omega (arith, one_more.1) in
    needed_after c.args.pins.now.entries c.insert.new.self.entries c.args.id.now (Some c.in_ok-more.more) c.requires (positive c.in_ok-more.more above) (λ q. c.in_ok-insert.ensures.updates.0 q)
