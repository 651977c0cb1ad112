use Rattle.std.proofs.Common.{List, ap, ◌∙◌}
use Rattle.std.proofs.lemmas.Bool.{and_from}
use Rattle.aft_model.specs.Readings.{record_name}
use Rattle.aft_records.specs.declared.name.Name.TheVariants.{CommitOf}
use Rattle.aft_model.specs.declared.door.DoorEntry.{DoorEntry}
use Rattle.aft_door.specs.Calls.{DoorView, told_done}
use Rattle.aft_door.specs.Entries.{who_calls}
use Rattle.aft_door.specs.Refusals.{as_result, if_fenced}
use Rattle.aft_door.proofs.Puts.{asks_delete, behind, delete_may, is_office, passed}
use Rattle.aft_door.proofs.door.Door.delete_record.Goals as goal

pub delete-requires-clause-may : goal.delete-requires-clause-may
delete-requires-clause-may g c =
    let h = ap (λ (v : DoorView). v.history) c.self.view_is in
    let up = passed c.in_ok-test_up.field-0 (if_fenced c.args.who c.args.self.now.history) (c.in_ok-test_up.ensures ∙ ap (λ (x : List DoorEntry). as_result (if_fenced c.args.who x)) h) in
    delete_may c.args.self.now.history (who_calls c.args.who) c.in_ok-name.name (CommitOf c.args.uuid) c.in_ok-name.ensures.ok (c.uuid_bytes.ensures.bytes, tt) (and_from _ _ (is_office (who_calls c.args.who) c.requires.office) c.requires.marked)

pub returns-clause-refused : goal.returns-clause-refused
returns-clause-refused g c =
    let h = ap (λ (v : DoorView). v.history) c.self.view_is in
    let up = passed c.in_ok-test_up.field-0 (if_fenced c.args.who c.args.self.now.history) (c.in_ok-test_up.ensures ∙ ap (λ (x : List DoorEntry). as_result (if_fenced c.args.who x)) h) in
    behind (if_fenced c.args.who c.args.self.now.history) c.delete.result up c.delete.ensures.refused

pub returns-clause-asks : goal.returns-clause-asks
returns-clause-asks g c = asks_delete c.args.self.now _ c.args.who c.in_ok-name.name (record_name c.args.uuid) (told_done c.delete.result) c.in_ok-name.ensures.ok c.delete.ensures.asks
