use Rattle.law_boots.proofs.Promised.{repeated}
use Rattle.law_boots.proofs.laws.gets_repeat_versions.Goals as goal

pub returns : goal.returns
returns c first capacity trace made opens legal = repeated first capacity trace legal made opens
