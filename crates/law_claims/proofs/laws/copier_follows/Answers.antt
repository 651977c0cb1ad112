use Rattle.law_claims.proofs.Copying.{copier_follows}
use Rattle.law_claims.proofs.laws.copier_follows.Goals as goal

pub returns : goal.returns
returns c = copier_follows
