use Rattle.law_answers.proofs.Begins.{begins_exact}
use Rattle.law_answers.proofs.laws.begins_leave_out_nothing.Goals as goal

pub returns : goal.returns
returns c uuid node view reply is keeps rules words legal caused = begins_exact uuid node view reply is keeps rules words legal caused
