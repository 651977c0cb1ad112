use Rattle.law_refused.proofs.Leaves.{leaves}
use Rattle.law_refused.proofs.laws.finished_upgrades_leave_upgraded.Goals as goal

pub returns : goal.returns
returns c ran trace ended honest = leaves ran trace ended honest
