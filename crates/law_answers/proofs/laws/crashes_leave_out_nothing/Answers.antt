use Rattle.law_answers.proofs.Crashes.{crashes_exact}
use Rattle.law_answers.proofs.laws.crashes_leave_out_nothing.Goals as goal

pub returns : goal.returns
returns c node view reply is keeps caused = crashes_exact node view reply is keeps caused
