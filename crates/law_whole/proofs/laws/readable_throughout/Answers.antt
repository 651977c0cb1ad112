use Rattle.law_whole.proofs.Readable.{all_readable}
use Rattle.law_whole.proofs.laws.readable_throughout.Goals as goal

pub returns : goal.returns
returns c history lawful = all_readable history lawful
