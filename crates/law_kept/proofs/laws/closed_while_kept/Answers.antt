use Rattle.law_kept.proofs.Gives.{closed}
use Rattle.law_kept.proofs.laws.closed_while_kept.Goals as goal

pub returns : goal.returns
returns c x history kept is un = closed x history kept is un
