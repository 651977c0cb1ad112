use Rattle.std.proofs.Common.{subst}
use Rattle.std.specs.Prelude.{Option}
use Rattle.aft_model.specs.declared.reply.Reply.{Reply}
use Rattle.aft_begin.specs.View.{behind_claim}
use Rattle.aft_begin.specs.declared.stage.Stage.TheVariants.{Claims}
use Rattle.aft_begin.proofs.DoorSteps.{DoorStep, claim_step}
use Rattle.aft_begin.proofs.doors.claims.Goals as goal

pub returns-in-None-clause-steps : goal.returns-in-None-clause-steps
returns-in-None-clause-steps g c node may =
    subst (λ (r : Option Reply). DoorStep c.args.aim c.args.by node c.args.uuid c.args.attempt c.args.door.now.history c.claim.new.door.history (Claims c.args.attempt) (behind_claim c.args.attempt r)) c.in-None.is
    (claim_step c.args.aim c.args.by node c.args.uuid c.args.attempt c.args.door.now.history c.claim.new.door.history c.claim.result (c.claim.ensures.claims may))

pub returns-in-Some-clause-steps : goal.returns-in-Some-clause-steps
returns-in-Some-clause-steps g c node may =
    subst (λ (r : Option Reply). DoorStep c.args.aim c.args.by node c.args.uuid c.args.attempt c.args.door.now.history c.claim.new.door.history (Claims c.args.attempt) (behind_claim c.args.attempt r)) c.in-Some.is
    (claim_step c.args.aim c.args.by node c.args.uuid c.args.attempt c.args.door.now.history c.claim.new.door.history c.claim.result (c.claim.ensures.claims may))
