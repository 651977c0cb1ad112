use Rattle.std.proofs.Common.{sym, subst}
use Rattle.aft_commit.specs.declared.stage.Stage.TheVariants.{Stores}
use Rattle.aft_commit.proofs.DoorSteps.{DoorStep, record_step}
use Rattle.std.specs.Prelude.{IsTrue}
use Rattle.aft_commit.specs.View.{FitsAt, has_put_failed}
use Rattle.aft_commit.specs.declared.stage.Stage.{Stage}
use Rattle.aft_commit.proofs.Leading.{record_fits, record_failed}
use Rattle.aft_commit.proofs.doors.store_record.Goals as goal

pub returns-clause-steps : goal.returns-clause-steps
returns-clause-steps g c clock hold aborts values count few may =
    subst (DoorStep clock c.args.by hold c.args.attempt c.args.door.now.history c.put_record-told.new.door.history aborts (Stores c.args.attempt c.args.written values count)) (sym c.record_put.ensures.value)
    (record_step clock c.args.by hold c.args.attempt c.args.door.now.history c.put_record-told.new.door.history c.args.written values count c.put_record-told.result aborts few (c.put_record-told.ensures.puts may))

pub returns-clause-fits : goal.returns-clause-fits
returns-clause-fits g c = subst (FitsAt c.args.attempt.node) (sym c.record_put.ensures.value) (record_fits c.put_record-told.result c.args.attempt c.args.written)

pub returns-clause-cause : goal.returns-clause-cause
returns-clause-cause g c = record {
  never_falls = c.put_record-told.ensures.cause.never_falls;
  rose = λ told. c.put_record-told.ensures.cause.rose (record_failed c.put_record-told.result c.args.attempt c.args.written (subst (λ (s : Stage). IsTrue (has_put_failed s)) c.record_put.ensures.value told));
}
