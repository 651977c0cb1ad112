use Rattle.law_finish.proofs.Finish.{finish_led}
use Rattle.law_finish.proofs.laws.finishes_lead.Goals as goal

pub returns : goal.returns
returns c aborts nodes ends line = finish_led nodes ends aborts line
