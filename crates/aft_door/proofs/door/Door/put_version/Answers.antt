use Rattle.std.proofs.Common.{List, ap, ◌∙◌}
use Rattle.std.proofs.lemmas.Bool.{and_from}
use Rattle.aft_model.specs.Readings.{version_name}
use Rattle.aft_records.specs.Rows.{version_row}
use Rattle.aft_model.specs.declared.door.DoorEntry.{DoorEntry}
use Rattle.aft_door.specs.Calls.{DoorView, told_done}
use Rattle.aft_door.specs.Entries.{who_calls}
use Rattle.aft_door.specs.Refusals.{as_result, if_fenced, if_not_holder, or_then}
use Rattle.aft_door.proofs.Puts.{asks_put, behind, both_none, holds_if, passed, version_may}
use Rattle.aft_door.proofs.door.Door.put_version.Goals as goal

pub put-requires-clause-may : goal.put-requires-clause-may
put-requires-clause-may g c =
    let h = ap (λ (v : DoorView). v.history) c.self.view_is in
    let up = passed c.in_ok-test_up.field-0 (if_fenced c.args.who c.args.self.now.history) (c.in_ok-test_up.ensures ∙ ap (λ (x : List DoorEntry). as_result (if_fenced c.args.who x)) h) in
    let held = passed c.in_ok-test_holder.field-0 (if_not_holder c.args.who c.args.version.now.id.uuid c.args.self.now.history) (c.in_ok-test_holder.ensures ∙ ap (λ (x : List DoorEntry). as_result (if_not_holder c.args.who c.args.version.now.id.uuid x)) h) in
    version_may c.args.self.now.history (who_calls c.args.who) c.in_ok-name.name c.in_ok-bytes.bytes c.args.version.now c.in_ok-name.ensures.ok c.in_ok-bytes.ensures (c.version_fits.ensures, c.requires.timely) (and_from _ _ (holds_if c.args.who c.args.version.now.id.uuid c.args.self.now.history held) c.requires.unused)

pub returns-clause-refused : goal.returns-clause-refused
returns-clause-refused g c =
    let h = ap (λ (v : DoorView). v.history) c.self.view_is in
    let up = passed c.in_ok-test_up.field-0 (if_fenced c.args.who c.args.self.now.history) (c.in_ok-test_up.ensures ∙ ap (λ (x : List DoorEntry). as_result (if_fenced c.args.who x)) h) in
    let held = passed c.in_ok-test_holder.field-0 (if_not_holder c.args.who c.args.version.now.id.uuid c.args.self.now.history) (c.in_ok-test_holder.ensures ∙ ap (λ (x : List DoorEntry). as_result (if_not_holder c.args.who c.args.version.now.id.uuid x)) h) in
    behind (or_then (if_fenced c.args.who c.args.self.now.history) (if_not_holder c.args.who c.args.version.now.id.uuid c.args.self.now.history)) c.put.result (both_none (if_fenced c.args.who c.args.self.now.history) (if_not_holder c.args.who c.args.version.now.id.uuid c.args.self.now.history) up held) c.put.ensures.refused

pub returns-clause-asks : goal.returns-clause-asks
returns-clause-asks g c = asks_put c.args.self.now _ c.args.who c.in_ok-name.name (version_name c.args.version.now.key c.args.version.now.id) c.in_ok-bytes.bytes (version_row c.args.version.now) (told_done c.put.result) c.in_ok-name.ensures.ok c.in_ok-bytes.ensures c.put.ensures.asks
