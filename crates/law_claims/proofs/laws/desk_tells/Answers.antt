use Rattle.law_claims.proofs.DeskSteps.{desk_tells}
use Rattle.law_claims.proofs.laws.desk_tells.Goals as goal

pub returns : goal.returns
returns c = desk_tells
