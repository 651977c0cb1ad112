use Rattle.law_boots.proofs.Promised.{recorded_ids}
use Rattle.law_boots.proofs.laws.ids_were_recorded.Goals as goal

pub returns : goal.returns
returns c first capacity trace legal = recorded_ids first capacity trace legal
