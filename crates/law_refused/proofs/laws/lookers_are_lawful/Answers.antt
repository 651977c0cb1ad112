use Rattle.law_refused.proofs.Looking.{lawful_looks}
use Rattle.law_refused.proofs.laws.lookers_are_lawful.Goals as goal

pub returns : goal.returns
returns c history legal made honest looks = lawful_looks history legal made honest looks
