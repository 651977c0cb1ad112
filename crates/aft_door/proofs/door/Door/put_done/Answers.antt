use Rattle.std.proofs.Common.{List, ap, ◌∙◌, subst}
use Rattle.std.proofs.lemmas.Bool.{and_from}
use Rattle.aft_model.specs.Readings.{marker_name}
use Rattle.aft_records.specs.Rows.{marker_row}
use Rattle.aft_records.specs.declared.stored.Marker.TheVariants.{Done}
use Rattle.aft_model.specs.declared.door.DoorEntry.{DoorEntry}
use Rattle.aft_door.specs.Calls.{DoorView, told_done}
use Rattle.aft_door.specs.Entries.{who_calls}
use Rattle.aft_door.specs.Refusals.{as_result, if_fenced}
use Rattle.aft_model.specs.Bytes.{HasBytes}
use Rattle.aft_door.proofs.Timely.{done_timely}
use Rattle.aft_door.proofs.Puts.{asks_put, behind, is_office, marker_may, passed}
use Rattle.aft_door.proofs.door.Door.put_done.Goals as goal

pub put-requires-clause-may : goal.put-requires-clause-may
put-requires-clause-may g c =
    let h = ap (λ (v : DoorView). v.history) c.self.view_is in
    let up = passed c.in_ok-test_up.field-0 (if_fenced c.args.who c.args.self.now.history) (c.in_ok-test_up.ensures ∙ ap (λ (x : List DoorEntry). as_result (if_fenced c.args.who x)) h) in
    marker_may c.args.self.now.history (who_calls c.args.who) c.in_ok-name.name c.in_ok-bytes.bytes (Done c.args.id) c.in_ok-name.ensures.ok c.in_ok-bytes.ensures.ok (c.id_fits.ensures, done_timely c.args.self.now.history (subst HasBytes h c.law.ensures.bytes) c.args.id c.requires.gone) (and_from _ _ (is_office (who_calls c.args.who) c.requires.office) c.requires.gone)

pub returns-clause-refused : goal.returns-clause-refused
returns-clause-refused g c =
    let h = ap (λ (v : DoorView). v.history) c.self.view_is in
    let up = passed c.in_ok-test_up.field-0 (if_fenced c.args.who c.args.self.now.history) (c.in_ok-test_up.ensures ∙ ap (λ (x : List DoorEntry). as_result (if_fenced c.args.who x)) h) in
    behind (if_fenced c.args.who c.args.self.now.history) c.put.result up c.put.ensures.refused

pub returns-clause-asks : goal.returns-clause-asks
returns-clause-asks g c = asks_put c.args.self.now _ c.args.who c.in_ok-name.name (marker_name c.args.id.uuid) c.in_ok-bytes.bytes (marker_row (Done c.args.id)) (told_done c.put.result) c.in_ok-name.ensures.ok c.in_ok-bytes.ensures.ok c.put.ensures.asks
