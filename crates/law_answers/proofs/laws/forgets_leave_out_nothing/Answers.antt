use Rattle.law_answers.proofs.Forgets.{forgets_exact}
use Rattle.law_answers.proofs.laws.forgets_leave_out_nothing.Goals as goal

pub returns : goal.returns
returns c uuid node view reply is keeps rules words caused = forgets_exact uuid node view reply is keeps rules words caused
