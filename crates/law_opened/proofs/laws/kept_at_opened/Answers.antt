use Rattle.law_names.proofs.Tests.{uuid_is}
use Rattle.law_opened.proofs.Base.{kept_base}
use Rattle.law_opened.proofs.laws.kept_at_opened.Goals as goal

pub returns : goal.returns
returns c uuid history entry is lawful opened = kept_base uuid (uuid_is uuid is) history entry lawful opened
