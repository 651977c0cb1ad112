use Rattle.law_effects.proofs.Follows.{honest_sight}
use Rattle.law_effects.proofs.laws.effects_are_honest.Goals as goal

pub returns : goal.returns
returns c name outcome history more entry = honest_sight name outcome history more entry
