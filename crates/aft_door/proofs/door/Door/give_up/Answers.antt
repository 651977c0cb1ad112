use Rattle.std.proofs.Common.{refl}
use Rattle.aft_door.specs.Entries.{gave_up}
use Rattle.aft_door.proofs.Along.{quiet_on}
use Rattle.aft_door.proofs.door.Door.give_up.Goals as goal

pub invariant_of-self-2 : goal.invariant_of-self-2
invariant_of-self-2 g c = rw (c.add_give_up.ensures, c.make_room.ensures.history) (quiet_on _ (gave_up c.args.who c.args.id) refl (λ pairs. refl) c.self.invariant)
