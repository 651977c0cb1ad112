use Rattle.law_courses.proofs.Begins.{begin_led}
use Rattle.law_courses.proofs.laws.begins_lead.Goals as goal

pub returns : goal.returns
returns c uuid nodes node ends line = begin_led uuid node nodes ends line
