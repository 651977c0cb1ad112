use Rattle.law_courses.proofs.Gets.{get_led}
use Rattle.law_courses.proofs.laws.gets_lead.Goals as goal

pub returns : goal.returns
returns c key nodes ends line = get_led key nodes ends line
