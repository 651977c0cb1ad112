use Rattle.std.proofs.Common.{ap, subst, sym, ◌∙◌, List, ℕ}
use Rattle.std.specs.Prelude.{Err, None, Ok, Option, Result, Some}
use Rattle.aft_door.specs.declared.fault.DoorFault.{DoorFault}
use Rattle.aft_door.specs.Calls.{Shows, told_found}
use Rattle.aft_door.specs.Refusals.{RefusedOrFailed, if_fenced}
use Rattle.aft_keeper.specs.declared.keeper.KeeperCall.TheVariants.{Get}
use Rattle.aft_model.specs.declared.caller.Caller.{Caller}
use Rattle.aft_model.specs.declared.reply.Reply.{Reply}
use Rattle.aft_records.specs.Names.{name_text}
use Rattle.aft_begin.specs.declared.looked.Looked.TheVariants.{Stops}
use Rattle.aft_begin.specs.Calls.{LooksSo}
use Rattle.aft_begin.proofs.Asking.{absent, refused, shown}
use Rattle.aft_begin.proofs.calls.look.Goals as goal

pub returns-in-Ok-None-clause-looks : goal.returns-in-Ok-None-clause-looks
returns-in-Ok-None-clause-looks g c may =
    absent c.args.by c.args.attempt c.args.uuid c.args.sought (name_text c.name-name.result) c.name-name.ensures c.args.door.now c.get-told.new.self
    (subst (λ (w : Caller). Shows told_found c.args.door.now w (Get (name_text c.name-name.result)) (Ok None) c.get-told.new.self) c.caller.ensures
    (subst (λ (r : Result (Option (List ℕ)) DoorFault). Shows told_found c.args.door.now c.caller.result (Get (name_text c.name-name.result)) r c.get-told.new.self) (c.in-Ok-None.is ∙ ap (λ (o : Option (List ℕ)). Ok o) c.in-Ok-None.field-0-is) c.get-told.ensures.shows))

pub returns-in-Ok-Some-clause-looks : goal.returns-in-Ok-Some-clause-looks
returns-in-Ok-Some-clause-looks g c may =
    shown c.args.by c.args.attempt c.args.uuid c.args.sought (name_text c.name-name.result) c.name-name.ensures c.args.door.now c.get-told.new.self c.in-Ok-Some.bytes c.shown.result c.uuid_bytes.ensures.bytes c.law_legal.ensures.bytes
    (subst (λ (w : Caller). Shows told_found c.args.door.now w (Get (name_text c.name-name.result)) (Ok (Some c.in-Ok-Some.bytes)) c.get-told.new.self) c.caller.ensures
    (subst (λ (r : Result (Option (List ℕ)) DoorFault). Shows told_found c.args.door.now c.caller.result (Get (name_text c.name-name.result)) r c.get-told.new.self) (c.in-Ok-Some.is ∙ ap (λ (o : Option (List ℕ)). Ok o) c.in-Ok-Some.field-0-is) c.get-told.ensures.shows))
    (rw c.in-Ok-Some.field-0-is at c.shown.ensures.shown)

pub returns-clause-looks : goal.returns-clause-looks
returns-clause-looks g c may =
    subst (λ (reply : Reply). LooksSo c.args.by c.args.attempt c.args.uuid c.args.sought c.args.door.now.history c.get-told.new.self.history (Stops reply)) (sym c.refusal.ensures)
    (refused c.args.by c.args.attempt c.args.uuid c.args.sought (name_text c.name-name.result) c.name-name.ensures c.args.door.now c.get-told.new.self c.in-Err.fault may
    (subst (λ (w : Caller). RefusedOrFailed {T = Option (List ℕ)} (if_fenced w c.args.door.now.history) (Err c.in-Err.fault)) c.caller.ensures
    (subst (λ (r : Result (Option (List ℕ)) DoorFault). RefusedOrFailed (if_fenced c.caller.result c.args.door.now.history) r) c.in-Err.is c.get-told.ensures.refused))
    (subst (λ (w : Caller). Shows told_found c.args.door.now w (Get (name_text c.name-name.result)) (Err c.in-Err.fault) c.get-told.new.self) c.caller.ensures
    (subst (λ (r : Result (Option (List ℕ)) DoorFault). Shows told_found c.args.door.now c.caller.result (Get (name_text c.name-name.result)) r c.get-told.new.self) c.in-Err.is c.get-told.ensures.shows)))
