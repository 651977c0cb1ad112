use Rattle.law_names.proofs.Tests.{uuid_is}
use Rattle.law_kept.proofs.Always.{kept_behind_deleting}
use Rattle.law_kept.proofs.laws.kept_behind_deletes.Goals as goal

pub returns : goal.returns
returns c uuid history entry is comes kept kind = kept_behind_deleting uuid (uuid_is uuid is) history entry comes kept kind
