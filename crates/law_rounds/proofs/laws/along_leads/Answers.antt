use Rattle.std.proofs.Common.{sym}
use Rattle.law_rounds.proofs.Along.{along_led, goes}
use Rattle.law_rounds.proofs.laws.along_leads.Goals as goal

pub returns : goal.returns
returns c command nodes ends line is answers = sym (along_led command nodes ends (goes command nodes ends is) line answers)
