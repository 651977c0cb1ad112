use Rattle.law_refused.proofs.Refused.{looked}
use Rattle.law_refused.proofs.laws.refused_only_look.Goals as goal

pub returns-clause-door : goal.returns-clause-door
returns-clause-door c asked ran trace = (looked asked ran trace).door

pub returns-clause-nodes : goal.returns-clause-nodes
returns-clause-nodes c asked ran trace = (looked asked ran trace).nodes
