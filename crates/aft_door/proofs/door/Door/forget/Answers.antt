use Rattle.std.proofs.Common.{List, ap, ◌∙◌}
use Rattle.std.proofs.lemmas.Bool.{and_from}
use Rattle.aft_model.specs.Readings.{marker_name}
use Rattle.aft_records.specs.declared.name.Name.TheVariants.{RetiredOf}
use Rattle.aft_model.specs.declared.door.DoorEntry.{DoorEntry}
use Rattle.aft_door.specs.Calls.{DoorView, told_done}
use Rattle.aft_door.specs.Entries.{who_calls}
use Rattle.aft_door.specs.Refusals.{as_result, if_fenced, if_not_holder, or_then}
use Rattle.aft_door.proofs.Puts.{asks_delete, behind, both_none, delete_may, holds_if, passed, short_of}
use Rattle.aft_door.proofs.door.Door.forget.Goals as goal

pub delete_under-requires-clause-may : goal.delete_under-requires-clause-may
delete_under-requires-clause-may g c =
    let h = ap (λ (v : DoorView). v.history) c.self.view_is in
    let up = passed c.in_ok-test_up.field-0 (if_fenced c.args.who c.args.self.now.history) (c.in_ok-test_up.ensures ∙ ap (λ (x : List DoorEntry). as_result (if_fenced c.args.who x)) h) in
    let held = passed c.in_ok-test_holder.field-0 (if_not_holder c.args.who c.args.id.uuid c.args.self.now.history) (c.in_ok-test_holder.ensures ∙ ap (λ (x : List DoorEntry). as_result (if_not_holder c.args.who c.args.id.uuid x)) h) in
    delete_may c.args.self.now.history (who_calls c.args.who) c.in_ok-name.name (RetiredOf c.args.id.uuid) c.in_ok-name.ensures.ok (c.uuid_bytes.ensures.bytes, tt) (and_from _ _ (holds_if c.args.who c.args.id.uuid c.args.self.now.history held) (short_of (who_calls c.args.who) c.args.id c.args.self.now.history c.requires.short))

pub returns-clause-refused : goal.returns-clause-refused
returns-clause-refused g c =
    let h = ap (λ (v : DoorView). v.history) c.self.view_is in
    let up = passed c.in_ok-test_up.field-0 (if_fenced c.args.who c.args.self.now.history) (c.in_ok-test_up.ensures ∙ ap (λ (x : List DoorEntry). as_result (if_fenced c.args.who x)) h) in
    let held = passed c.in_ok-test_holder.field-0 (if_not_holder c.args.who c.args.id.uuid c.args.self.now.history) (c.in_ok-test_holder.ensures ∙ ap (λ (x : List DoorEntry). as_result (if_not_holder c.args.who c.args.id.uuid x)) h) in
    behind (or_then (if_fenced c.args.who c.args.self.now.history) (if_not_holder c.args.who c.args.id.uuid c.args.self.now.history)) c.delete_under.result (both_none (if_fenced c.args.who c.args.self.now.history) (if_not_holder c.args.who c.args.id.uuid c.args.self.now.history) up held) c.delete_under.ensures.refused

pub returns-clause-asks : goal.returns-clause-asks
returns-clause-asks g c = asks_delete c.args.self.now _ c.args.who c.in_ok-name.name (marker_name c.args.id.uuid) (told_done c.delete_under.result) c.in_ok-name.ensures.ok c.delete_under.ensures.asks
