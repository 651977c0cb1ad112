use Rattle.std.proofs.Common.{Bool, subst, sym}
use Rattle.aft_model.specs.declared.reply.Reply.{Reply}
use Rattle.aft_begin.specs.View.{behind_release}
use Rattle.aft_begin.specs.declared.stage.Stage.TheVariants.{GivesUp, LetsGo}
use Rattle.aft_begin.proofs.DoorSteps.{DoorStep, release_step}
use Rattle.aft_begin.proofs.doors.lets_go.Goals as goal

pub returns-then-release-clause-steps : goal.returns-then-release-clause-steps
returns-then-release-clause-steps g c node may =
    subst (λ (t : Bool). DoorStep c.args.aim c.args.by node c.args.uuid c.args.attempt c.args.door.now.history c.release.new.door.history (LetsGo c.args.attempt c.args.reply) (behind_release c.args.attempt c.args.reply t)) c.if-release.true
    (release_step c.args.aim c.args.by node c.args.uuid c.args.attempt c.args.door.now.history c.release.new.door.history c.args.reply c.release.result (c.release.ensures.releases may))

pub returns-else-release-clause-steps : goal.returns-else-release-clause-steps
returns-else-release-clause-steps g c node may =
    subst (λ (r : Reply). DoorStep c.args.aim c.args.by node c.args.uuid c.args.attempt c.args.door.now.history c.release.new.door.history (LetsGo c.args.attempt c.args.reply) (GivesUp c.args.attempt r)) (sym c.down.ensures)
    (subst (λ (t : Bool). DoorStep c.args.aim c.args.by node c.args.uuid c.args.attempt c.args.door.now.history c.release.new.door.history (LetsGo c.args.attempt c.args.reply) (behind_release c.args.attempt c.args.reply t)) c.if-release.false
    (release_step c.args.aim c.args.by node c.args.uuid c.args.attempt c.args.door.now.history c.release.new.door.history c.args.reply c.release.result (c.release.ensures.releases may)))
