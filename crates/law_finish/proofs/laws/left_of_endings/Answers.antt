use Rattle.law_finish.proofs.Finish.{is_finish, over, step, stopped}
use Rattle.law_finish.proofs.Storing.{doubting, ending, leaving}
use Rattle.law_finish.proofs.laws.left_of_endings.Goals as goal

pub returns-clause-doubting : goal.returns-clause-doubting
returns-clause-doubting c aborts nodes ends storing line = doubting ends (step nodes ends aborts) (over nodes ends aborts) (stopped nodes ends aborts) (is_finish nodes ends aborts) storing line

pub returns-clause-leaving : goal.returns-clause-leaving
returns-clause-leaving c aborts nodes uuid a ends line = leaving ends (step nodes ends aborts) (over nodes ends aborts) (stopped nodes ends aborts) (is_finish nodes ends aborts) aborts a uuid line

pub returns-clause-ending : goal.returns-clause-ending
returns-clause-ending c aborts nodes a outcome ends line = ending ends (step nodes ends aborts) (over nodes ends aborts) (stopped nodes ends aborts) (is_finish nodes ends aborts) a outcome line
