use Rattle.law_whole.proofs.Promised.{acknowledged_node}
use Rattle.law_whole.proofs.laws.acknowledged_throughout.Goals as goal

pub returns : goal.returns
returns c node capacity door history legal seen = acknowledged_node node capacity door history legal seen
