use Rattle.law_rounds.proofs.Orphans.{orphans_led}
use Rattle.law_rounds.proofs.laws.orphans_lead.Goals as goal

pub returns : goal.returns
returns c key nodes ends line up = orphans_led key nodes ends up line
