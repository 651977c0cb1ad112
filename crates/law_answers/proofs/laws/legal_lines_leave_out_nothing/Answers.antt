use Rattle.law_answers.proofs.Legal.{legal_exact}
use Rattle.law_answers.proofs.laws.legal_lines_leave_out_nothing.Goals as goal

pub returns : goal.returns
returns c asked ran line reply legal asks answers = legal_exact asked ran line reply legal asks answers
