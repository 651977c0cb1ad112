use Rattle.std.proofs.Common.{subst, sym}
use Rattle.aft_turns.specs.Steps.{StepsAtDoor}
use Rattle.aft_read.specs.Made.{has_come_up_at, made_at}
use Rattle.aft_read.specs.declared.stage.Stage.{Stage}
use Rattle.aft_read.proofs.fetch.step.Goals as goal

pub returns-in-Fetches-clause-steps : goal.returns-in-Fetches-clause-steps
returns-in-Fetches-clause-steps g c capacity hold asked =
    subst (λ (s : Stage). has_come_up_at s c.args.door.now.history → StepsAtDoor c.args.by (made_at capacity c.args.by hold asked s) (made_at capacity c.args.by hold asked c.fetch.result) c.args.door.now.history c.fetch.new.door.history) (sym c.in-Fetches.is) (c.fetch.ensures.steps capacity hold asked)
