use Rattle.law_damage.proofs.Settling.{shows_own}
use Rattle.law_damage.proofs.laws.settlers_find_their_own.Goals as goal

pub returns : goal.returns
returns x asked ran line before rest place node inc name bytes storing c legal honest listed is settles gets among = shows_own asked ran legal honest line listed before rest place node inc name bytes is storing settles gets c among
