use Rattle.law_damage.proofs.Fixed.{settles_fixed}
use Rattle.law_damage.proofs.laws.settlers_settle_what_is_fixed.Goals as goal

pub returns : goal.returns
returns x = settles_fixed
