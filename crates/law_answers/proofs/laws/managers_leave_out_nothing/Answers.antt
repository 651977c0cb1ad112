use Rattle.law_answers.proofs.Managers.{managers_exact}
use Rattle.law_answers.proofs.laws.managers_leave_out_nothing.Goals as goal

pub returns : goal.returns
returns c view reply is keeps caused = managers_exact view reply is keeps caused
