use Rattle.law_places.proofs.Seen.{node_stays, office_stays}
use Rattle.law_places.proofs.laws.seen_stays.Goals as goal

pub returns-clause-node : goal.returns-clause-node
returns-clause-node c node door more history seen = node_stays door more node history seen

pub returns-clause-office : goal.returns-clause-office
returns-clause-office c door more office opened legal = office_stays door more office opened legal
