use Rattle.std.proofs.Common.{subst}
use Rattle.aft_keeper.specs.declared.keeper.KeeperCall.TheVariants.{Get}
use Rattle.aft_model.specs.declared.caller.Caller.{Caller}
use Rattle.aft_model.specs.Readings.{record_name}
use Rattle.aft_door.specs.Calls.{Shows, told_found}
use Rattle.aft_door.specs.Refusals.{RefusedOrFailed, if_fenced}
use Rattle.aft_commit.proofs.Asking.{looks_so, same_store}
use Rattle.aft_commit.proofs.calls.look.Goals as goal

pub returns-clause-looks : goal.returns-clause-looks
returns-clause-looks g c may =
    looks_so c.args.by c.args.attempt c.args.door.now c.get-told.new.self c.args.written.now.commit c.uuid_bytes.ensures.bytes c.get-told.result c.seen.result may
    (subst (λ (w : Caller). RefusedOrFailed (if_fenced w c.args.door.now.history) c.get-told.result) c.caller.ensures c.get-told.ensures.refused)
    (subst (λ (w : Caller). Shows told_found c.args.door.now w (Get (record_name c.args.written.now.commit.id.uuid)) c.get-told.result c.get-told.new.self) c.caller.ensures c.get-told.ensures.shows)
    c.seen.ensures.tells

pub returns-clause-store : goal.returns-clause-store
returns-clause-store g c =
    same_store c.args.by c.args.attempt c.args.door.now c.get-told.new.self c.args.written.now.commit c.uuid_bytes.ensures.bytes c.get-told.result
    (subst (λ (w : Caller). Shows told_found c.args.door.now w (Get (record_name c.args.written.now.commit.id.uuid)) c.get-told.result c.get-told.new.self) c.caller.ensures c.get-told.ensures.shows)
