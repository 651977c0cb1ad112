use Rattle.law_effects.proofs.Follows.{follows}
use Rattle.law_effects.proofs.laws.effects_follow.Goals as goal

pub returns : goal.returns
returns c name history entry = follows name history entry
