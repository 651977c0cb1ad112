use Rattle.law_grows.proofs.Positions.{positions_over}
use Rattle.law_grows.proofs.laws.positions_stay.Goals as goal

pub returns : goal.returns
returns c command nodes reach ends other line same kept up so = positions_over command nodes reach ends other line same kept up so
