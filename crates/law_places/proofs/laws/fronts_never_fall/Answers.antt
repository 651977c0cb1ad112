use Rattle.law_places.proofs.Fronts.{node_fronts_rise, office_fronts_rise}
use Rattle.law_places.proofs.laws.fronts_never_fall.Goals as goal

pub returns-clause-node : goal.returns-clause-node
returns-clause-node c node capacity history legal = node_fronts_rise node capacity history legal

pub returns-clause-office : goal.returns-clause-office
returns-clause-office c office legal = office_fronts_rise office legal
