use Rattle.law_answers.proofs.Locals.{locals_exact}
use Rattle.law_answers.proofs.laws.locals_leave_out_nothing.Goals as goal

pub returns : goal.returns
returns c node view reply is keeps caused = locals_exact node view reply is keeps caused
