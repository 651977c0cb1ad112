use Rattle.law_kept.proofs.Unmoved.{kept_behind_claim}
use Rattle.law_kept.proofs.laws.kept_behind_claims.Goals as goal

pub returns : goal.returns
returns c uuid history entry comes kept kind = kept_behind_claim uuid history entry comes kept kind
