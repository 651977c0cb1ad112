use Rattle.law_answers.proofs.Orphans.{orphans_exact}
use Rattle.law_answers.proofs.laws.orphans_leave_out_nothing.Goals as goal

pub returns : goal.returns
returns c key view reply is keeps caused = orphans_exact key view reply is keeps caused
