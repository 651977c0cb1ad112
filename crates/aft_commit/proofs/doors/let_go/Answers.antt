use Rattle.std.proofs.Common.{sym, subst}
use Rattle.aft_commit.specs.declared.stage.Stage.TheVariants.{Releases}
use Rattle.aft_commit.proofs.DoorSteps.{DoorStep, release_step}
use Rattle.aft_commit.proofs.doors.let_go.Goals as goal

pub returns-clause-steps : goal.returns-clause-steps
returns-clause-steps g c clock hold aborts may =
    subst (DoorStep clock c.args.by hold c.args.attempt c.args.door.now.history c.release-released.new.door.history aborts (Releases c.args.attempt c.args.uuid c.args.outcome)) (sym c.let_go_to.ensures)
    (release_step clock c.args.by hold c.args.attempt c.args.door.now.history c.release-released.new.door.history aborts c.args.uuid c.args.outcome c.release-released.result (c.release-released.ensures.releases may))
