use Rattle.law_steps.proofs.Histories.{door_is, node_is}
use Rattle.law_steps.proofs.laws.histories_are_steps.Goals as goal

pub returns-clause-door : goal.returns-clause-door
returns-clause-door c = door_is

pub returns-clause-node : goal.returns-clause-node
returns-clause-node c = node_is
