use Rattle.law_claims.proofs.DoorSteps.{mover_in_stage}
use Rattle.law_claims.proofs.InStage.{bystander_in_stage}
use Rattle.law_claims.proofs.laws.puts_are_in_stage.Goals as goal

pub returns-clause-moved : goal.returns-clause-moved
returns-clause-moved c = mover_in_stage

pub returns-clause-bystander : goal.returns-clause-bystander
returns-clause-bystander c = bystander_in_stage
