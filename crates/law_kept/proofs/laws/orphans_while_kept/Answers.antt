use Rattle.law_kept.proofs.Gives.{orphan_of_none}
use Rattle.law_kept.proofs.laws.orphans_while_kept.Goals as goal

pub returns : goal.returns
returns c id history kept may is = orphan_of_none id history kept may is
