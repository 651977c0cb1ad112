use Rattle.std.proofs.Common.{sym, subst}
use Rattle.aft_commit.specs.declared.stage.Stage.TheVariants.{Settles}
use Rattle.aft_commit.proofs.DoorSteps.{DoorStep, settle_step}
use Rattle.std.specs.Prelude.{IsTrue}
use Rattle.aft_commit.specs.View.{FitsAt, has_put_failed}
use Rattle.aft_commit.specs.declared.stage.Stage.{Stage}
use Rattle.aft_commit.proofs.Leading.{settled_fits, settled_failed}
use Rattle.aft_commit.proofs.doors.settle.Goals as goal

pub returns-clause-steps : goal.returns-clause-steps
returns-clause-steps g c clock hold may =
    subst (DoorStep clock c.args.by hold c.args.attempt c.args.door.now.history c.look-sight.new.door.history c.args.aborts (Settles c.args.attempt c.args.written c.args.values)) (sym c.settled.ensures.value)
    (settle_step clock c.args.by hold c.args.attempt c.args.door.now.history c.look-sight.new.door.history c.args.aborts c.args.written c.args.values c.look-sight.result (c.look-sight.ensures.looks may))

pub returns-clause-fits : goal.returns-clause-fits
returns-clause-fits g c = subst (FitsAt c.args.attempt.node) (sym c.settled.ensures.value) (settled_fits c.look-sight.result c.args.aborts c.args.attempt c.args.written c.args.values c.look-sight.ensures.may)

pub returns-clause-cause : goal.returns-clause-cause
returns-clause-cause g c = record {
  never_falls = c.look-sight.ensures.cause.never_falls;
  rose = λ told. c.look-sight.ensures.cause.rose (settled_failed c.look-sight.result c.args.aborts c.args.attempt c.args.written c.args.values c.look-sight.ensures.may (subst (λ (s : Stage). IsTrue (has_put_failed s)) c.settled.ensures.value told));
}
