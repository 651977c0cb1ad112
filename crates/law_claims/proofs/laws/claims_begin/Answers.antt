use Rattle.law_claims.proofs.Beginning.{begins}
use Rattle.law_claims.proofs.laws.claims_begin.Goals as goal

pub returns : goal.returns
returns c = begins
