use Rattle.law_answers.proofs.Announcements.{announcements_exact}
use Rattle.law_answers.proofs.laws.announcements_leave_out_nothing.Goals as goal

pub returns : goal.returns
returns c node view reply is keeps caused = announcements_exact node view reply is keeps caused
