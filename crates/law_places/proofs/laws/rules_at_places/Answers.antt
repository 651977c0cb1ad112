use Rattle.std.proofs.Common.{[]}
use Rattle.aft_model.specs.LegalDoor.{may_follow}
use Rattle.aft_model.specs.LegalNode.{may_follow_at}
use Rattle.aft_model.specs.NodeSights.{may_come_at}
use Rattle.aft_model.specs.Office.{may_be_next, may_come_beside}
use Rattle.law_places.proofs.Places.{rule_at}
use Rattle.law_places.proofs.laws.rules_at_places.Goals as goal

pub returns-clause-door : goal.returns-clause-door
returns-clause-door c place entry history legal is = rule_at may_follow [] history place entry legal is

pub returns-clause-node : goal.returns-clause-node
returns-clause-node c node capacity place entry history legal is = rule_at (may_follow_at node capacity) [] history place entry legal is

pub returns-clause-node_sights : goal.returns-clause-node_sights
returns-clause-node_sights c node place entry door history seen is = rule_at (may_come_at node door) [] history place entry seen is

pub returns-clause-office : goal.returns-clause-office
returns-clause-office c place entry office legal is = rule_at may_be_next [] office place entry legal is

pub returns-clause-office_sights : goal.returns-clause-office_sights
returns-clause-office_sights c place entry door office legal is = rule_at (may_come_beside door) [] office place entry legal is
