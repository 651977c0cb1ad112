use Rattle.std.proofs.Common.{None}
use Rattle.aft_txn.proofs.Pinned.{needed_after}
use Rattle.aft_txn.proofs.pins.unpin.Goals as goal

pub returns-else-count-gt1-clause-needed : goal.returns-else-count-gt1-clause-needed
returns-else-count-gt1-clause-needed c = needed_after c.args.pins.now.entries c.swap_remove.new.self.entries c.args.id.now None c.requires.needed (λ is. cc) (λ q. c.swap_remove.ensures.updates.0 q)
