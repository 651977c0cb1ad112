use Rattle.law_answers.proofs.Gets.{gets_exact}
use Rattle.law_answers.proofs.laws.gets_leave_out_nothing.Goals as goal

pub returns : goal.returns
returns c key view reply is keeps rules words speaks caused = gets_exact key view reply is keeps rules words speaks caused
