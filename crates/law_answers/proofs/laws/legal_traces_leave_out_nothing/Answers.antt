use Rattle.law_answers.proofs.Legal.{legal_leaves_nothing}
use Rattle.law_answers.proofs.laws.legal_traces_leave_out_nothing.Goals as goal

pub returns : goal.returns
returns c asked ran legal = legal_leaves_nothing asked ran legal
