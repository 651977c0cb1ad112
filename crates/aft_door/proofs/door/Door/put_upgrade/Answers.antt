use Rattle.std.proofs.Common.{List, ap, sym, refl, subst}
use Rattle.std.specs.Prelude.{IsTrue}
use Rattle.std.proofs.lemmas.Bool.{and_from, or_right}
use Rattle.aft_model.specs.Readings.{record_name}
use Rattle.aft_records.specs.Rows.{record_row}
use Rattle.aft_model.specs.declared.door.DoorEntry.{DoorEntry}
use Rattle.aft_door.specs.Calls.{DoorView, told_done, upgraded}
use Rattle.aft_door.specs.Entries.{who_calls}
use Rattle.aft_model.specs.Bytes.{HasBytes}
use Rattle.aft_model.specs.Membership.{Incarnation, is_up}
use Rattle.aft_door.proofs.Timely.{old_timely}
use Rattle.aft_door.proofs.Puts.{asks_put, is_office, record_may, upgraded_is}
use Rattle.aft_door.proofs.door.Door.put_upgrade.Goals as goal

pub put_under-requires-clause-up : goal.put_under-requires-clause-up
put_under-requires-clause-up g c =
    let h = ap (λ (v : DoorView). v.history) c.self.view_is in
    subst (λ (w : Incarnation). IsTrue (is_up w c.args.self.now.history)) (sym c.requires.office) (subst (λ (x : List DoorEntry). IsTrue (is_up (record { node = 0; inc = 1 }) x)) h c.law.ensures.standing.office)

pub put_under-requires-clause-may : goal.put_under-requires-clause-may
put_under-requires-clause-may g c =
    let h = ap (λ (v : DoorView). v.history) c.self.view_is in
    record_may c.args.self.now.history (who_calls c.args.who) c.in_ok-name.name c.in_ok-bytes.bytes (upgraded c.args.commit.now) c.in_ok-name.ensures.ok c.in_ok-bytes.ensures.ok (upgraded_is c.args.commit.now (c.commit_fits.ensures, old_timely c.args.self.now.history (subst HasBytes h c.law.ensures.bytes) c.args.commit.now c.requires.old))
    (or_right _ _ (and_from _ _ (and_from _ _ (and_from _ _ (is_office (who_calls c.args.who) c.requires.office) refl) c.requires.old) c.requires.untouched))

pub returns-clause-asks : goal.returns-clause-asks
returns-clause-asks g c = asks_put c.args.self.now _ c.args.who c.in_ok-name.name (record_name c.args.commit.now.id.uuid) c.in_ok-bytes.bytes (record_row (upgraded c.args.commit.now)) (told_done c.put_under.result) c.in_ok-name.ensures.ok c.in_ok-bytes.ensures.ok c.put_under.ensures.asks
