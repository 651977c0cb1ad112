use Rattle.law_whole.proofs.Throughout.{has_one}
use Rattle.law_whole.proofs.laws.committed_once_throughout.Goals as goal

pub returns : goal.returns
returns c history lawful = has_one history lawful
