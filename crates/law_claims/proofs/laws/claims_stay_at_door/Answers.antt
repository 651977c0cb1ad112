use Rattle.law_claims.proofs.DoorSteps.{bystander_steps_keep, mover_steps_keep, quiet_steps_keep}
use Rattle.law_claims.proofs.laws.claims_stay_at_door.Goals as goal

pub returns-clause-moved : goal.returns-clause-moved
returns-clause-moved c = mover_steps_keep

pub returns-clause-bystander : goal.returns-clause-bystander
returns-clause-bystander c = bystander_steps_keep

pub returns-clause-quiet : goal.returns-clause-quiet
returns-clause-quiet c = quiet_steps_keep
