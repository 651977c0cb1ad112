use Rattle.std.proofs.Common.{refl}
use Rattle.aft_model.specs.declared.caller.Caller.{Caller}
use Rattle.aft_door.proofs.Seen.{orphan_found}
use Rattle.aft_door.proofs.tests.look_for_orphan.Goals as goal

pub returns-clause-orphan : goal.returns-clause-orphan
returns-clause-orphan g c =
    let who : Caller = record { node = 0; inc = 1; by = record { client = 1; line = 1 } } in
    rw (c.look.ensures.history, c.len-place.ensures, c.caller.ensures) (orphan_found who c.args.id.now c.args.door.now.history refl)
