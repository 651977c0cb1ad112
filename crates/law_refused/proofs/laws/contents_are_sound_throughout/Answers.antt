use Rattle.law_refused.proofs.Leaves.{refused_sound, upgrade_sound}
use Rattle.law_refused.proofs.laws.contents_are_sound_throughout.Goals as goal

pub returns-clause-refused : goal.returns-clause-refused
returns-clause-refused c asked ran at_first now held front back trace contents along is opened along_front = refused_sound asked ran at_first now held front back trace contents along is opened along_front

pub returns-clause-upgrade : goal.returns-clause-upgrade
returns-clause-upgrade c ran at_first now held front back trace contents along is opened along_front = upgrade_sound ran at_first now held front back trace contents along is opened along_front
