use Rattle.law_whole.proofs.Throughout.{each_whole}
use Rattle.law_whole.proofs.laws.whole_throughout.Goals as goal

pub returns : goal.returns
returns c history lawful = each_whole history lawful
