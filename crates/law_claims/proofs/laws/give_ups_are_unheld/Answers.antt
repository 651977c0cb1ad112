use Rattle.law_claims.proofs.Unheld.{gives_up_unheld}
use Rattle.law_claims.proofs.laws.give_ups_are_unheld.Goals as goal

pub returns : goal.returns
returns c node capacity scene serving id legal serves free keeps = gives_up_unheld node capacity scene serving legal serves id free keeps
