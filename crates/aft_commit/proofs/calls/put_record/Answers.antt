use Rattle.std.proofs.Common.{subst, sym}
use Rattle.std.specs.Prelude.{IsTrue}
use Rattle.aft_keeper.specs.declared.keeper.KeeperCall.TheVariants.{Put}
use Rattle.aft_records.specs.Limits.{AreKeys}
use Rattle.aft_records.specs.Rows.{record_row}
use Rattle.aft_model.specs.declared.caller.Caller.{Caller}
use Rattle.aft_model.specs.DoorKnowledge.{knows_stored}
use Rattle.aft_model.specs.Membership.{incarnation}
use Rattle.aft_model.specs.Readings.{record_name}
use Rattle.aft_door.specs.Calls.{Asks, told_done}
use Rattle.aft_door.specs.Refusals.{RefusedOrFailed, if_fenced, if_not_holder, or_then}
use Rattle.aft_commit.proofs.Asking.{put_so}
use Rattle.aft_commit.proofs.Fitting.{origin_fits, record_fits}
use Rattle.aft_commit.proofs.calls.put_record.Goals as goal

pub put_record-requires-clause-stored : goal.put_record-requires-clause-stored
put_record-requires-clause-stored g c = subst (λ (w : Caller). IsTrue (knows_stored (incarnation w.node w.inc) c.args.written.now.commit c.args.door.now.history)) (sym c.caller.ensures) c.requires.knows

pub put_record-requires-clause-origin : goal.put_record-requires-clause-origin
put_record-requires-clause-origin g c = origin_fits c.args.attempt c.args.written.now c.requires.storable c.small_inc.ensures

pub returns-clause-puts : goal.returns-clause-puts
returns-clause-puts g c may = (
  record_fits c.args.attempt c.args.written.now c.requires.storable c.small_inc.ensures c.uuid_bytes.ensures.bytes (subst AreKeys c.list.ensures.value c.list.ensures.limits),
  put_so c.args.by c.args.attempt c.args.door.now c.put_record.new.self c.args.written.now.commit.id.uuid (Put (record_name c.args.written.now.commit.id.uuid) (record_row c.args.written.now)) c.put_record.result may
      (subst (λ (w : Caller). RefusedOrFailed (or_then (if_fenced w c.args.door.now.history) (if_not_holder w c.args.written.now.commit.id.uuid c.args.door.now.history)) c.put_record.result) c.caller.ensures c.put_record.ensures.refused)
      (subst (λ (w : Caller). Asks c.args.door.now w (Put (record_name c.args.written.now.commit.id.uuid) (record_row c.args.written.now)) (told_done c.put_record.result) c.put_record.new.self) c.caller.ensures c.put_record.ensures.asks),
)
