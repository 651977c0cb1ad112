use Rattle.law_grows.proofs.Positions.{courses_over}
use Rattle.law_grows.proofs.laws.courses_stay.Goals as goal

pub returns : goal.returns
returns c command nodes reach ends other line same kept up so = courses_over command nodes reach ends other line same kept up so
