use Rattle.law_refused.proofs.Upgrade.{its_upgrades}
use Rattle.law_refused.proofs.laws.upgrades_only_upgrade.Goals as goal

pub returns : goal.returns
returns c ran trace = its_upgrades ran trace
