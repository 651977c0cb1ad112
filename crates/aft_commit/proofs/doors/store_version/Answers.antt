use Rattle.std.proofs.Common.{sym, subst}
use Rattle.aft_commit.specs.declared.stage.Stage.TheVariants.{Stores}
use Rattle.aft_commit.proofs.DoorSteps.{DoorStep, version_step}
use Rattle.std.specs.Prelude.{IsTrue}
use Rattle.aft_commit.specs.View.{FitsAt, has_put_failed}
use Rattle.aft_commit.specs.declared.stage.Stage.{Stage}
use Rattle.aft_commit.proofs.Leading.{version_fits, version_failed}
use Rattle.aft_commit.proofs.doors.store_version.Goals as goal

pub returns-clause-steps : goal.returns-clause-steps
returns-clause-steps g c clock hold aborts may =
    subst (DoorStep clock c.args.by hold c.args.attempt c.args.door.now.history c.put_version-told.new.door.history aborts (Stores c.args.attempt c.args.written c.args.values c.args.count)) (sym c.version_put.ensures.value)
    (version_step clock c.args.by hold c.args.attempt c.args.door.now.history c.put_version-told.new.door.history c.args.written c.args.values c.args.count c.put_version-told.result aborts (c.put_version-told.ensures.puts may))

pub returns-clause-fits : goal.returns-clause-fits
returns-clause-fits g c = subst (FitsAt c.args.attempt.node) (sym c.version_put.ensures.value) (version_fits c.put_version-told.result c.args.attempt c.args.written c.args.values c.args.count)

pub returns-clause-cause : goal.returns-clause-cause
returns-clause-cause g c = record {
  never_falls = c.put_version-told.ensures.cause.never_falls;
  rose = λ told. c.put_version-told.ensures.cause.rose (version_failed c.put_version-told.result c.args.attempt c.args.written c.args.values c.args.count (subst (λ (s : Stage). IsTrue (has_put_failed s)) c.version_put.ensures.value told));
}
