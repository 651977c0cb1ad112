use Rattle.law_refused.proofs.Upgrading.{lawful_upgrades}
use Rattle.law_refused.proofs.laws.upgraders_are_lawful.Goals as goal

pub returns : goal.returns
returns c history legal made honest all = lawful_upgrades history legal made honest all
