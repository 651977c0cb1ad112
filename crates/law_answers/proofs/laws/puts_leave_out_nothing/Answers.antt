use Rattle.law_answers.proofs.Puts.{puts_exact}
use Rattle.law_answers.proofs.laws.puts_leave_out_nothing.Goals as goal

pub returns : goal.returns
returns c key value view reply is keeps caused = puts_exact key value view reply is keeps caused
