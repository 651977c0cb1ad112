use Rattle.law_boots.proofs.Promised.{own_puts}
use Rattle.law_boots.proofs.laws.own_puts_are_answered.Goals as goal

pub returns : goal.returns
returns c first capacity trace legal = own_puts first capacity trace legal
