use Rattle.law_claims.proofs.NodeSteps.{bystander_turns_keep, mover_turns_keep, quiet_turns_keep}
use Rattle.law_claims.proofs.laws.claims_stay_at_nodes.Goals as goal

pub returns-clause-moved : goal.returns-clause-moved
returns-clause-moved c = mover_turns_keep

pub returns-clause-bystander : goal.returns-clause-bystander
returns-clause-bystander c = bystander_turns_keep

pub returns-clause-quiet : goal.returns-clause-quiet
returns-clause-quiet c = quiet_turns_keep
