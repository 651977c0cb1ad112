use Rattle.aft_model.proofs.Knowledge.{known_ascends}
use Rattle.aft_model.proofs.node_laws.known_ascends.Goals as goal

pub returns : goal.returns
returns c = known_ascends
