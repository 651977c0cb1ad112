use Rattle.std.proofs.Common.{List, ap, ◌∙◌, subst}
use Rattle.std.proofs.lemmas.Bool.{and_from, or_left}
use Rattle.aft_model.specs.Readings.{version_name}
use Rattle.aft_records.specs.Limits.{IsKey}
use Rattle.aft_records.specs.declared.name.Name.TheVariants.{VersionOf}
use Rattle.aft_model.specs.declared.door.DoorEntry.{DoorEntry}
use Rattle.aft_door.specs.Calls.{DoorView, told_done}
use Rattle.aft_door.specs.Entries.{who_calls}
use Rattle.aft_door.specs.Refusals.{as_result, if_fenced}
use Rattle.aft_model.specs.Bytes.{HasBytes}
use Rattle.aft_door.proofs.Timely.{gone_timely}
use Rattle.aft_door.proofs.Puts.{asks_delete, behind, delete_may, is_office, passed}
use Rattle.aft_door.proofs.door.Door.delete_version.Goals as goal

pub delete-requires-clause-may : goal.delete-requires-clause-may
delete-requires-clause-may g c =
    let h = ap (λ (v : DoorView). v.history) c.self.view_is in
    let up = passed c.in_ok-test_up.field-0 (if_fenced c.args.who c.args.self.now.history) (c.in_ok-test_up.ensures ∙ ap (λ (x : List DoorEntry). as_result (if_fenced c.args.who x)) h) in
    delete_may c.args.self.now.history (who_calls c.args.who) c.in_ok-name.name (VersionOf c.args.key.now c.args.id) c.in_ok-name.ensures.ok (((subst IsKey c.bytes.ensures.value c.bytes.ensures.limits), c.id_fits.ensures), gone_timely c.args.self.now.history (subst HasBytes h c.law.ensures.bytes) c.args.id c.requires.gone) (and_from _ _ (is_office (who_calls c.args.who) c.requires.office) (or_left _ _ c.requires.gone))

pub returns-clause-refused : goal.returns-clause-refused
returns-clause-refused g c =
    let h = ap (λ (v : DoorView). v.history) c.self.view_is in
    let up = passed c.in_ok-test_up.field-0 (if_fenced c.args.who c.args.self.now.history) (c.in_ok-test_up.ensures ∙ ap (λ (x : List DoorEntry). as_result (if_fenced c.args.who x)) h) in
    behind (if_fenced c.args.who c.args.self.now.history) c.delete.result up c.delete.ensures.refused

pub returns-clause-asks : goal.returns-clause-asks
returns-clause-asks g c = asks_delete c.args.self.now _ c.args.who c.in_ok-name.name (version_name c.args.key.now c.args.id) (told_done c.delete.result) c.in_ok-name.ensures.ok c.delete.ensures.asks
