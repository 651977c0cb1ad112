use Rattle.std.proofs.Common.{refl}
use Rattle.aft_door.specs.Entries.{door_opened}
use Rattle.aft_door.proofs.Along.{quiet_on}
use Rattle.aft_door.proofs.door.Door.opened.Goals as goal

pub invariant_of-self-2 : goal.invariant_of-self-2
invariant_of-self-2 g c = rw (c.add_opened.ensures, c.make_room.ensures.history) (quiet_on _ (door_opened c.args.by) refl (λ pairs. refl) c.self.invariant)
