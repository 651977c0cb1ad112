use Rattle.law_makes.proofs.Whole.{lines_make}
use Rattle.law_makes.proofs.laws.lines_make.Goals as goal

pub returns : goal.returns
returns c command nodes ends line position is leads = lines_make command nodes ends line position is leads
