use Rattle.law_names.proofs.Tests.{uuid_is}
use Rattle.law_kept.proofs.Always.{always}
use Rattle.law_kept.proofs.laws.always_kept.Goals as goal

pub returns : goal.returns
returns c uuid history more is opened whole kept = always uuid (uuid_is uuid is) history more opened whole kept
