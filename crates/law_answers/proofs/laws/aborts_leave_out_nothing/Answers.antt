use Rattle.law_answers.proofs.Aborts.{aborts_exact}
use Rattle.law_answers.proofs.laws.aborts_leave_out_nothing.Goals as goal

pub returns : goal.returns
returns c view reply is keeps rules speaks caused = aborts_exact view reply is keeps rules speaks caused
