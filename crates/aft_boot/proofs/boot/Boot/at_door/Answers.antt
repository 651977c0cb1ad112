use Rattle.std.proofs.Common.{subst}
use Rattle.aft_boot.specs.Booted.{Made, MayCall, made_at, may_call_at}
use Rattle.aft_boot.specs.BootView.{BootView}
use Rattle.aft_boot.specs.declared.stage.Stage.{Stage}
use Rattle.aft_turns.specs.Steps.{StepsAtDoor}
use Rattle.aft_boot.proofs.boot.Boot.at_door.Goals as goal

pub returns-clause-steps : goal.returns-clause-steps
returns-clause-steps g c =
    subst (λ (v : BootView). MayCall v c.args.door.now.history → StepsAtDoor v.by (Made v) (made_at c.self.inside.by c.self.inside.node c.step.result) c.args.door.now.history c.step.new.door.history) c.self.view_is
    (subst (λ (s : Stage). may_call_at c.self.inside.by c.self.inside.node s c.args.door.now.history → StepsAtDoor c.self.inside.by (made_at c.self.inside.by c.self.inside.node s) (made_at c.self.inside.by c.self.inside.node c.step.result) c.args.door.now.history c.step.new.door.history) c.replace-stage.ensures.value
    c.step.ensures.steps)
