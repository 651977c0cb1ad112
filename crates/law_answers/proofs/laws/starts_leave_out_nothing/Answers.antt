use Rattle.law_answers.proofs.Starts.{starts_exact}
use Rattle.law_answers.proofs.laws.starts_leave_out_nothing.Goals as goal

pub returns : goal.returns
returns c node view reply is keeps rules stands caused = starts_exact node view reply is keeps rules stands caused
