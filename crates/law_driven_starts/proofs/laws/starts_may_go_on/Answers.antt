use Rattle.law_driven_starts.proofs.Goes.{at_door, at_end, at_node}
use Rattle.law_driven_starts.proofs.laws.starts_may_go_on.Goals as goal

pub returns-clause-at_node : goal.returns-clause-at_node
returns-clause-at_node c asked ran stand line hold trail boot node driven of made is = at_node asked ran stand line hold trail boot driven of node is made

pub returns-clause-at_door : goal.returns-clause-at_door
returns-clause-at_door c asked ran stand line hold trail boot driven of made = at_door asked ran stand line hold trail boot driven of made

pub returns-clause-at_end : goal.returns-clause-at_end
returns-clause-at_end c asked ran stand line hold trail boot node driven of made is = at_end asked ran stand line hold trail boot driven of node is made
