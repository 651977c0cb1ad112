use Rattle.std.proofs.Common.{refl}
use Rattle.aft_keeper.specs.declared.keeper.KeeperAnswer.TheVariants.{Page}
use Rattle.aft_door.specs.Calls.{told_page}
use Rattle.aft_door.proofs.Went.{never_failed, refused_copied, tells_copied}
use Rattle.aft_door.proofs.door.told.page_told.Goals as goal

pub returns-in-Ok-clause-told : goal.returns-in-Ok-clause-told
returns-in-Ok-clause-told c = tells_copied c.page_copy-copy.result c.in-Ok.pairs c.page_copy-copy.ensures.err told_page (Page c.in-Ok.pairs) refl refl c.page_copy-copy.ensures.ok

pub returns-in-Ok-clause-refused : goal.returns-in-Ok-clause-refused
returns-in-Ok-clause-refused c = refused_copied c.page_copy-copy.result c.in-Ok.pairs c.page_copy-copy.ensures.err

pub returns-in-Ok-clause-failed : goal.returns-in-Ok-clause-failed
returns-in-Ok-clause-failed c is = absurd (never_failed c.page_copy-copy.result c.in-Ok.pairs c.page_copy-copy.ensures.err is)
