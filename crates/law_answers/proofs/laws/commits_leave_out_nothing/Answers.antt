use Rattle.law_answers.proofs.Endings.{commits_exact}
use Rattle.law_answers.proofs.laws.commits_leave_out_nothing.Goals as goal

pub returns : goal.returns
returns c view reply is keeps rules speaks clock last caused = commits_exact view reply is keeps rules speaks clock last caused
