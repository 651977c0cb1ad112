use Rattle.law_courses.proofs.Begins.{begun_leads, no_record_leads}
use Rattle.law_courses.proofs.laws.left_of_begins.Goals as goal

pub returns-clause-opening : goal.returns-clause-opening
returns-clause-opening c uuid nodes node begun ends line = begun_leads uuid node nodes ends begun line

pub returns-clause-no_record : goal.returns-clause-no_record
returns-clause-no_record c uuid nodes node begun ends line = no_record_leads uuid node nodes ends begun line
