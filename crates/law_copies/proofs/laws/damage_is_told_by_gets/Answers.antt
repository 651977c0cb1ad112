use Rattle.law_copies.proofs.Told.{told_by_gets}
use Rattle.law_copies.proofs.laws.damage_is_told_by_gets.Goals as goal

pub returns : goal.returns
returns x = told_by_gets
