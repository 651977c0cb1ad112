use Rattle.law_driven_gets.proofs.Goes.{at_door, at_node}
use Rattle.law_driven_gets.proofs.laws.gets_may_go_on.Goals as goal

pub returns-clause-at_node : goal.returns-clause-at_node
returns-clause-at_node c asked ran stand line hold trail read node driven of made is = at_node asked ran stand line hold trail read driven of node is made

pub returns-clause-at_door : goal.returns-clause-at_door
returns-clause-at_door c asked ran stand line hold trail read driven of made = at_door asked ran stand line hold trail read driven of made
