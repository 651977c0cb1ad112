use Rattle.law_driver.proofs.Node.{node_keeps}
use Rattle.law_driver.proofs.laws.node_turns_keep.Goals as goal

pub returns : goal.returns
returns c asked ran stand line hold trail node act answer done all driven is_node legal promises = node_keeps asked ran stand line hold trail node act answer done all driven is_node legal promises
