use Rattle.std.proofs.Common.{refl}
use Rattle.std.specs.Prelude.{Some}
use Rattle.aft_keeper.specs.declared.keeper.KeeperAnswer.TheVariants.{Found}
use Rattle.aft_door.specs.Calls.{told_found}
use Rattle.aft_door.proofs.Went.{never_failed, refused_copied, tells_copied}
use Rattle.aft_door.proofs.door.told.found_told.Goals as goal

pub returns-in-Ok-Some-clause-told : goal.returns-in-Ok-Some-clause-told
returns-in-Ok-Some-clause-told c = tells_copied c.found_copy-copy.result (Some c.in-Ok-Some.bytes) c.found_copy-copy.ensures.err told_found (Found c.in-Ok-Some.bytes) refl refl c.found_copy-copy.ensures.ok

pub returns-in-Ok-Some-clause-refused : goal.returns-in-Ok-Some-clause-refused
returns-in-Ok-Some-clause-refused c = refused_copied c.found_copy-copy.result (Some c.in-Ok-Some.bytes) c.found_copy-copy.ensures.err

pub returns-in-Ok-Some-clause-failed : goal.returns-in-Ok-Some-clause-failed
returns-in-Ok-Some-clause-failed c is = absurd (never_failed c.found_copy-copy.result (Some c.in-Ok-Some.bytes) c.found_copy-copy.ensures.err is)
