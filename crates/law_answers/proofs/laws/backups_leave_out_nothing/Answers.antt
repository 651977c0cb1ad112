use Rattle.law_answers.proofs.Backups.{backups_exact}
use Rattle.law_answers.proofs.laws.backups_leave_out_nothing.Goals as goal

pub returns : goal.returns
returns c view reply is keeps caused = backups_exact view reply is keeps caused
