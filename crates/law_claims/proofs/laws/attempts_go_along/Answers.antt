use Rattle.law_claims.proofs.Taking.{attempts_go_along}
use Rattle.law_claims.proofs.laws.attempts_go_along.Goals as goal

pub returns : goal.returns
returns c command nodes ends node capacity inc before entry next a stage puts of legal serve still e named rest = attempts_go_along command nodes ends node capacity inc before entry next a stage puts of legal serve still e named rest
