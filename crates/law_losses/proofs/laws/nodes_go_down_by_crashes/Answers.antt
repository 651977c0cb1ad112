use Rattle.law_losses.proofs.NodeDowns.{down_by_crash}
use Rattle.law_losses.proofs.laws.nodes_go_down_by_crashes.Goals as goal

pub returns : goal.returns
returns x asked ran line node inc legal listed real among = down_by_crash asked ran legal line listed node inc real among
