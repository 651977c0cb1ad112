use Rattle.law_claims.proofs.Moments.{moments_keep}
use Rattle.law_claims.proofs.laws.moments_keep.Goals as goal

pub returns : goal.returns
returns c = moments_keep
