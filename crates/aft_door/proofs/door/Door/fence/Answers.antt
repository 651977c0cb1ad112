use Rattle.std.proofs.Common.{refl}
use Rattle.aft_door.specs.Entries.{was_fenced}
use Rattle.aft_door.proofs.Along.{quiet_on}
use Rattle.aft_door.proofs.door.Door.fence.Goals as goal

pub invariant_of-self : goal.invariant_of-self
invariant_of-self g c = rw (c.add_fence.ensures) (quiet_on _ (was_fenced c.args.by c.args.node c.in_ok-inc.inc) refl (λ pairs. refl) c.self.invariant)
