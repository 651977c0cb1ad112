use Rattle.std.proofs.Common.{subst, sym}
use Rattle.aft_commit.specs.Asks.{may_call_at}
use Rattle.aft_commit.specs.Made.{made_at}
use Rattle.aft_commit.specs.declared.stage.Stage.{Stage}
use Rattle.aft_turns.specs.Steps.{StepsAtDoor}
use Rattle.aft_commit.proofs.doors.step.Goals as goal

pub returns-in-Settles-clause-steps : goal.returns-in-Settles-clause-steps
returns-in-Settles-clause-steps g c clock hold =
    subst (λ (s : Stage). may_call_at s c.args.door.now.history → StepsAtDoor c.args.by (made_at clock c.args.by hold c.args.aborts s) (made_at clock c.args.by hold c.args.aborts c.settle.result) c.args.door.now.history c.settle.new.door.history) (sym c.in-Settles.is)
    (c.settle.ensures.steps clock hold)

pub returns-in-Stores-clause-steps : goal.returns-in-Stores-clause-steps
returns-in-Stores-clause-steps g c clock hold =
    subst (λ (s : Stage). may_call_at s c.args.door.now.history → StepsAtDoor c.args.by (made_at clock c.args.by hold c.args.aborts s) (made_at clock c.args.by hold c.args.aborts c.store.result) c.args.door.now.history c.store.new.door.history) (sym c.in-Stores.is)
    (c.store.ensures.steps clock hold c.args.aborts)

pub returns-in-Failed-clause-steps : goal.returns-in-Failed-clause-steps
returns-in-Failed-clause-steps g c clock hold =
    subst (λ (s : Stage). may_call_at s c.args.door.now.history → StepsAtDoor c.args.by (made_at clock c.args.by hold c.args.aborts s) (made_at clock c.args.by hold c.args.aborts c.look_again.result) c.args.door.now.history c.look_again.new.door.history) (sym c.in-Failed.is)
    (c.look_again.ensures.steps clock hold c.args.aborts)

pub returns-in-Releases-clause-steps : goal.returns-in-Releases-clause-steps
returns-in-Releases-clause-steps g c clock hold =
    subst (λ (s : Stage). may_call_at s c.args.door.now.history → StepsAtDoor c.args.by (made_at clock c.args.by hold c.args.aborts s) (made_at clock c.args.by hold c.args.aborts c.let_go.result) c.args.door.now.history c.let_go.new.door.history) (sym c.in-Releases.is)
    (c.let_go.ensures.steps clock hold c.args.aborts)
