use Rattle.aft_begin.specs.declared.aim.Aim.TheVariants as aims
use Rattle.law_driven_claims.proofs.Goes.{at_door, at_node}
use Rattle.law_driven_claims.proofs.laws.forgets_may_go_on.Goals as goal

pub returns-clause-at_node : goal.returns-clause-at_node
returns-clause-at_node c asked ran stand line hold trail forget node driven its made is = at_node aims.Forget asked ran stand line hold trail forget driven its node is made

pub returns-clause-at_door : goal.returns-clause-at_door
returns-clause-at_door c asked ran stand line hold trail forget driven its made = at_door aims.Forget asked ran stand line hold trail forget driven its made
