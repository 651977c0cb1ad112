use Rattle.law_finish.proofs.Finish.{is_finish, over, step, stopped}
use Rattle.law_finish.proofs.Storing.{none_found, settling}
use Rattle.law_finish.proofs.laws.left_of_settlings.Goals as goal

pub returns-clause-settling : goal.returns-clause-settling
returns-clause-settling c aborts nodes ends storing line = settling ends (step nodes ends aborts) (over nodes ends aborts) (stopped nodes ends aborts) (is_finish nodes ends aborts) storing aborts line

pub returns-clause-none_found : goal.returns-clause-none_found
returns-clause-none_found c aborts nodes ends storing line = none_found ends (step nodes ends aborts) (over nodes ends aborts) (stopped nodes ends aborts) (is_finish nodes ends aborts) storing line
