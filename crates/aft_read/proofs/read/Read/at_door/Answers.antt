use Rattle.std.proofs.Common.{subst}
use Rattle.aft_turns.specs.Steps.{StepsAtDoor}
use Rattle.aft_read.specs.Made.{HasComeUp, Made, has_come_up_at, made_at}
use Rattle.aft_read.specs.View.{ReadView}
use Rattle.aft_read.specs.declared.stage.Stage.{Stage}
use Rattle.aft_read.proofs.read.Read.at_door.Goals as goal

pub returns-clause-steps : goal.returns-clause-steps
returns-clause-steps g c capacity =
    subst (λ (v : ReadView). HasComeUp v c.args.door.now.history → StepsAtDoor v.by (Made capacity v) (Made capacity (record { by = c.self.inside.by; hold = c.self.inside.hold; key = c.self.inside.asked.value; stage = c.step.result })) c.args.door.now.history c.step.new.door.history) c.self.view_is
    (subst (λ (s : Stage). has_come_up_at s c.args.door.now.history → StepsAtDoor c.self.inside.by (made_at capacity c.self.inside.by c.self.inside.hold c.self.inside.asked.value s) (made_at capacity c.self.inside.by c.self.inside.hold c.self.inside.asked.value c.step.result) c.args.door.now.history c.step.new.door.history) c.replace-stage.ensures.value
    (c.step.ensures.steps capacity c.self.inside.hold c.self.inside.asked.value))
