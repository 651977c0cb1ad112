use Rattle.std.proofs.Common.{sym, subst}
use Rattle.aft_commit.specs.declared.stage.Stage.TheVariants.{Failed}
use Rattle.aft_commit.proofs.DoorSteps.{DoorStep, look_step}
use Rattle.std.specs.Prelude.{IsTrue}
use Rattle.aft_commit.specs.View.{FitsAt, has_look_failed}
use Rattle.aft_commit.specs.declared.stage.Stage.{Stage}
use Rattle.aft_commit.proofs.Leading.{looked_fits, looked_failed}
use Rattle.aft_commit.proofs.doors.look_again.Goals as goal

pub returns-clause-steps : goal.returns-clause-steps
returns-clause-steps g c clock hold aborts may =
    subst (DoorStep clock c.args.by hold c.args.attempt c.args.door.now.history c.look-sight.new.door.history aborts (Failed c.args.attempt c.args.written)) (sym c.looked_again.ensures)
    (look_step clock c.args.by hold c.args.attempt c.args.door.now.history c.look-sight.new.door.history aborts c.args.written c.look-sight.result (c.look-sight.ensures.looks may))

pub returns-clause-fits : goal.returns-clause-fits
returns-clause-fits g c = subst (FitsAt c.args.attempt.node) (sym c.looked_again.ensures) (looked_fits c.look-sight.result c.args.attempt c.args.written c.look-sight.ensures.may)

pub returns-clause-cause : goal.returns-clause-cause
returns-clause-cause g c = record {
  never_falls = c.look-sight.ensures.cause.never_falls;
  rose = λ told. c.look-sight.ensures.cause.rose (looked_failed c.look-sight.result c.args.attempt c.args.written c.look-sight.ensures.may (subst (λ (s : Stage). IsTrue (has_look_failed s)) c.looked_again.ensures told));
}
