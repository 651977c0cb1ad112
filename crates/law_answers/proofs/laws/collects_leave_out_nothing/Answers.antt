use Rattle.law_answers.proofs.Collects.{collects_exact}
use Rattle.law_answers.proofs.laws.collects_leave_out_nothing.Goals as goal

pub returns : goal.returns
returns c view reply is keeps rules caused = collects_exact view reply is keeps rules caused
