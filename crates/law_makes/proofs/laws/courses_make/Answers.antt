use Rattle.law_makes.proofs.Whole.{courses_make}
use Rattle.law_makes.proofs.laws.courses_make.Goals as goal

pub returns : goal.returns
returns c command nodes ends line up follows = courses_make command nodes ends line up follows
