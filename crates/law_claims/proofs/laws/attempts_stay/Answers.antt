use Rattle.law_claims.proofs.Doors.{attempts_stay}
use Rattle.law_claims.proofs.laws.attempts_stay.Goals as goal

pub returns : goal.returns
returns c command nodes uuid ends position next place act a state is so e = attempts_stay command nodes uuid ends position next place act a state is so e
