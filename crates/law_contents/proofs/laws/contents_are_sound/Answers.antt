use Rattle.law_contents.proofs.Sound.{sound_now}
use Rattle.law_contents.proofs.laws.contents_are_sound.Goals as goal

pub returns : goal.returns
returns c at_first now history contents along lawful opened = sound_now at_first now history contents along lawful opened
