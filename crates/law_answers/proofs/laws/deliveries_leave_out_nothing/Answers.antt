use Rattle.law_answers.proofs.Deliveries.{deliveries_exact}
use Rattle.law_answers.proofs.laws.deliveries_leave_out_nothing.Goals as goal

pub returns : goal.returns
returns c node view reply is keeps caused = deliveries_exact node view reply is keeps caused
