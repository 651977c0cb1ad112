use Rattle.law_boots.proofs.Promised.{blockers}
use Rattle.law_boots.proofs.laws.blockers_are_named.Goals as goal

pub returns : goal.returns
returns c first capacity trace made legal = blockers first capacity trace legal made
