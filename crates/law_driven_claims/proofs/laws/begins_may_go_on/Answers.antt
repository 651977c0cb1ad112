use Rattle.aft_begin.specs.declared.aim.Aim.TheVariants as aims
use Rattle.law_driven_claims.proofs.Goes.{at_door, at_node}
use Rattle.law_driven_claims.proofs.laws.begins_may_go_on.Goals as goal

pub returns-clause-at_node : goal.returns-clause-at_node
returns-clause-at_node c asked ran stand line hold trail begin node driven its made is = at_node aims.Begin asked ran stand line hold trail begin driven its node is made

pub returns-clause-at_door : goal.returns-clause-at_door
returns-clause-at_door c asked ran stand line hold trail begin driven its made = at_door aims.Begin asked ran stand line hold trail begin driven its made
