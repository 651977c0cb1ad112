use Rattle.law_kept.proofs.LookKnown.{look_is_knowledge}
use Rattle.law_kept.proofs.laws.look_is_knowledge.Goals as goal

pub returns : goal.returns
returns c id history may = look_is_knowledge id history may
