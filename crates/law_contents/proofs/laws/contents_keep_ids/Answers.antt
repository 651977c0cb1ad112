use Rattle.law_contents.proofs.Sound.{keeps_ids_along}
use Rattle.law_contents.proofs.laws.contents_keep_ids.Goals as goal

pub returns : goal.returns
returns c at_first history contents lawful = keeps_ids_along at_first history contents lawful
