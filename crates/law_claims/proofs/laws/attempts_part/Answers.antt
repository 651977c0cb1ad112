use Rattle.law_claims.proofs.Parting.{attempts_part}
use Rattle.law_claims.proofs.laws.attempts_part.Goals as goal

pub returns : goal.returns
returns c command nodes uuid ends node before entry position next a state stage puts is so row e = attempts_part command nodes uuid ends node before entry position next a state stage puts is so row e
