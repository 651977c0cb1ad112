use Rattle.law_claims.proofs.DeskSteps.{others_lie, round_lies}
use Rattle.law_claims.proofs.laws.desk_stays.Goals as goal

pub returns-clause-round : goal.returns-clause-round
returns-clause-round c door entry by desk after uuid legal turns now same lies = round_lies door entry legal by desk after turns now same uuid lies

pub returns-clause-other : goal.returns-clause-other
returns-clause-other c door entry desk after uuid legal other same lies = others_lie door entry legal desk after other same uuid lies
