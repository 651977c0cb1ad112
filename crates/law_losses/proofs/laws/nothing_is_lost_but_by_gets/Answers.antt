use Rattle.law_losses.proofs.Entries.{nothing_lost}
use Rattle.law_losses.proofs.laws.nothing_is_lost_but_by_gets.Goals as goal

pub returns : goal.returns
returns x = nothing_lost
