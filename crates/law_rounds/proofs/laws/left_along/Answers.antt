use Rattle.law_rounds.proofs.Along.{along, goes}
use Rattle.law_rounds.proofs.laws.left_along.Goals as goal

pub returns : goal.returns
returns c command nodes ends made line is answers = along command nodes ends (goes command nodes ends is) made line answers
