use Rattle.law_whole.proofs.Throughout.{each_unused}
use Rattle.law_whole.proofs.laws.used_no_more_throughout.Goals as goal

pub returns : goal.returns
returns c history lawful = each_unused history lawful
