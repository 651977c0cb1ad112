use Rattle.law_courses.proofs.Begins.{forget_leads, look_leads}
use Rattle.law_courses.proofs.laws.left_of_forgets.Goals as goal

pub returns-clause-opening : goal.returns-clause-opening
returns-clause-opening c uuid nodes node begun ends line = forget_leads uuid node nodes ends begun line

pub returns-clause-no_record : goal.returns-clause-no_record
returns-clause-no_record c uuid nodes node begun ends line = look_leads uuid node nodes ends begun line
