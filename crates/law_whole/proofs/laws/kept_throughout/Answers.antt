use Rattle.law_names.proofs.Tests.{uuid_is}
use Rattle.law_whole.proofs.Throughout.{kept_open}
use Rattle.law_whole.proofs.laws.kept_throughout.Goals as goal

pub returns : goal.returns
returns c uuid history is opened lawful = kept_open uuid (uuid_is uuid is) history opened lawful
