use Rattle.law_courses.proofs.Begins.{forget_led}
use Rattle.law_courses.proofs.laws.forgets_lead.Goals as goal

pub returns : goal.returns
returns c uuid nodes node ends line = forget_led uuid node nodes ends line
