use Rattle.law_makes.proofs.Runs.{legal_make}
use Rattle.law_makes.proofs.laws.runs_make.Goals as goal

pub returns : goal.returns
returns c = legal_make
