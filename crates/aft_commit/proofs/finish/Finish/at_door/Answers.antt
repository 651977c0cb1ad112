use Rattle.std.proofs.Common.{subst}
use Rattle.aft_commit.specs.Asks.{MayCall, may_call_at}
use Rattle.aft_commit.specs.Made.{Made, made_at}
use Rattle.aft_commit.specs.View.{FinishView}
use Rattle.aft_commit.specs.declared.stage.Stage.{Stage}
use Rattle.aft_turns.specs.Steps.{StepsAtDoor}
use Rattle.aft_commit.proofs.finish.Finish.at_door.Goals as goal

pub returns-clause-steps : goal.returns-clause-steps
returns-clause-steps g c clock =
    subst (λ (v : FinishView). MayCall v c.args.door.now.history → StepsAtDoor v.by (Made clock v) (Made clock (record { by = c.self.inside.by; hold = c.self.inside.hold; aborts = c.self.inside.aborts; stage = c.step.result })) c.args.door.now.history c.step.new.door.history) c.self.view_is
    (subst (λ (s : Stage). may_call_at s c.args.door.now.history → StepsAtDoor c.self.inside.by (made_at clock c.self.inside.by c.self.inside.hold c.self.inside.aborts s) (made_at clock c.self.inside.by c.self.inside.hold c.self.inside.aborts c.step.result) c.args.door.now.history c.step.new.door.history) c.replace-stage.ensures.value
    (c.step.ensures.steps clock c.self.inside.hold))
