use Rattle.law_boots.proofs.GivenUp.{never_again}
use Rattle.law_boots.proofs.laws.given_up_is_never_known.Goals as goal

pub returns : goal.returns
returns c node capacity inc id door history more entry lawful beside is serve still = never_again node capacity door lawful inc id history more entry beside is serve still
