use Rattle.law_claims.proofs.Desk.{desk_follows}
use Rattle.law_claims.proofs.laws.desk_follows.Goals as goal

pub returns : goal.returns
returns c = desk_follows
