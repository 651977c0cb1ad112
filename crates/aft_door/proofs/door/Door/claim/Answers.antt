use Rattle.std.proofs.Common.{refl}
use Rattle.aft_door.specs.Entries.{claimed}
use Rattle.aft_door.proofs.Along.{quiet_on}
use Rattle.aft_door.proofs.door.Door.claim.Goals as goal

pub invariant_of-self-2 : goal.invariant_of-self-2
invariant_of-self-2 g c = rw (c.add_claim.ensures, c.make_room.ensures.history) (quiet_on _ (claimed c.args.who c.args.uuid) refl (λ pairs. refl) c.self.invariant)
