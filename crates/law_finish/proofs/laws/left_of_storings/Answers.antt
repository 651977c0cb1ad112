use Rattle.law_finish.proofs.Finish.{is_finish, over, step, stopped}
use Rattle.law_finish.proofs.Storing.{has_failed, node_stored, puts, recorded}
use Rattle.law_finish.proofs.laws.left_of_storings.Goals as goal

pub returns-clause-puts : goal.returns-clause-puts
returns-clause-puts c aborts nodes ends storing writes line = puts ends (step nodes ends aborts) (over nodes ends aborts) (stopped nodes ends aborts) (is_finish nodes ends aborts) storing writes line

pub returns-clause-failed : goal.returns-clause-failed
returns-clause-failed c aborts nodes ends storing line = has_failed ends (step nodes ends aborts) (over nodes ends aborts) (stopped nodes ends aborts) (is_finish nodes ends aborts) storing line

pub returns-clause-recorded : goal.returns-clause-recorded
returns-clause-recorded c aborts nodes ends storing line = recorded ends (step nodes ends aborts) (over nodes ends aborts) (stopped nodes ends aborts) (is_finish nodes ends aborts) storing line

pub returns-clause-stored : goal.returns-clause-stored
returns-clause-stored c aborts nodes ends storing line = node_stored ends (step nodes ends aborts) (over nodes ends aborts) (stopped nodes ends aborts) (is_finish nodes ends aborts) storing line
