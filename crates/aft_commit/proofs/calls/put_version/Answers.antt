use Rattle.std.proofs.Common.{inl, subst, sym, ◌&&◌, ◌||◌}
use Rattle.std.specs.Prelude.{IsTrue}
use Rattle.aft_id.specs.declared.txn_id.TxnId.{TxnId}
use Rattle.aft_keeper.specs.declared.keeper.KeeperCall.TheVariants.{Put}
use Rattle.aft_records.specs.Limits.{IsKey}
use Rattle.aft_records.specs.Rows.{version_row}
use Rattle.aft_model.specs.declared.caller.Caller.{Caller}
use Rattle.aft_model.specs.Claims.{holds}
use Rattle.aft_model.specs.DoorKnowledge.{knows_unused}
use Rattle.aft_model.specs.Membership.{incarnation, is_up}
use Rattle.aft_model.specs.NodeSights.{is_fenced}
use Rattle.aft_model.specs.Readings.{version_name}
use Rattle.aft_lines.specs.CourseWords.{caller_of}
use Rattle.aft_door.specs.Calls.{Asks, told_done}
use Rattle.aft_door.specs.Refusals.{RefusedOrFailed, if_fenced, if_not_holder, or_then}
use Rattle.aft_commit.proofs.Asking.{put_so}
use Rattle.aft_commit.proofs.Fitting.{short_at, version_fits}
use Rattle.aft_commit.proofs.calls.put_version.Goals as goal

pub put_version-requires-clause-unused : goal.put_version-requires-clause-unused
put_version-requires-clause-unused g c =
    subst (λ (w : Caller). IsTrue (knows_unused (incarnation w.node w.inc) c.in_ok-version.version.id.uuid c.args.door.now.history)) (sym c.caller.ensures)
    (subst (λ (i : TxnId). IsTrue (knows_unused (caller_of c.args.attempt) i.uuid c.args.door.now.history)) (sym c.in_ok-version.ensures.ok.0) c.requires.knows)

pub put_version-requires-clause-short : goal.put_version-requires-clause-short
put_version-requires-clause-short g c = short_at c.args.values.now c.args.count c.in_ok-version.version.value c.requires.storable.short c.in_ok-version.ensures.ok.2

pub returns-clause-puts : goal.returns-clause-puts
returns-clause-puts g c may =
    let v = c.in_ok-version.version in
    inl (
      v,
      c.in_ok-version.ensures.ok,
      version_fits c.args.attempt c.args.written.now c.args.values.now c.args.count v c.requires.storable c.in_ok-version.ensures.ok c.uuid_bytes.ensures.bytes (subst IsKey c.bytes.ensures.value c.bytes.ensures.limits),
      put_so c.args.by c.args.attempt c.args.door.now c.put_version.new.self v.id.uuid (Put (version_name v.key v.id) (version_row v)) c.put_version.result
          (subst (λ (i : TxnId). IsTrue (is_fenced (caller_of c.args.attempt) c.args.door.now.history || is_up (caller_of c.args.attempt) c.args.door.now.history && holds (caller_of c.args.attempt) i.uuid c.args.door.now.history)) (sym c.in_ok-version.ensures.ok.0) may)
          (subst (λ (w : Caller). RefusedOrFailed (or_then (if_fenced w c.args.door.now.history) (if_not_holder w v.id.uuid c.args.door.now.history)) c.put_version.result) c.caller.ensures c.put_version.ensures.refused)
          (subst (λ (w : Caller). Asks c.args.door.now w (Put (version_name v.key v.id) (version_row v)) (told_done c.put_version.result) c.put_version.new.self) c.caller.ensures c.put_version.ensures.asks),
    )
