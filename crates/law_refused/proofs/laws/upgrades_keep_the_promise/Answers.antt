use Rattle.law_refused.proofs.Upgrade.{keeps}
use Rattle.law_refused.proofs.laws.upgrades_keep_the_promise.Goals as goal

pub returns : goal.returns
returns c ran trace = keeps ran trace
