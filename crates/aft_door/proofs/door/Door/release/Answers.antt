use Rattle.std.proofs.Common.{refl}
use Rattle.aft_door.specs.Entries.{released}
use Rattle.aft_door.proofs.Along.{quiet_on}
use Rattle.aft_door.proofs.door.Door.release.Goals as goal

pub invariant_of-self : goal.invariant_of-self
invariant_of-self g c = rw (c.add_release.ensures) (quiet_on _ (released c.args.who c.args.uuid) refl (λ pairs. refl) c.self.invariant)
