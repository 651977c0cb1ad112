-- An upgrade keeps the stages, and retires nothing.
use Rattle.std.proofs.Common.{Bool, List, [], ap, eqb, false, not, refl, subst, sym, true, ℕ, ◌++◌, ◌||◌, ◌∙◌, ◌∷◌, ◌≡◌}
use Rattle.std.specs.Prelude.{IsTrue}
use Rattle.std.specs.List.{flat_map, list_all, list_any}
use Rattle.std.proofs.lemmas.Bool.{and_from, and_parts, false≢true, or_right}
use Rattle.aft_keeper.specs.declared.keeper.KeeperCall.TheVariants.{Delete, Get, Put, Scan}
use Rattle.aft_records.specs.declared.stored.Commit.{Commit}
use Rattle.aft_records.specs.declared.stored.Marker.{Marker}
use Rattle.aft_records.specs.declared.stored.Record.{Record}
use Rattle.aft_records.specs.declared.stored.Version.{Version}
use Rattle.aft_records.specs.Reading.{marker_of, record_of, version_of}
use Rattle.aft_model.specs.declared.caller.By.{By}
use Rattle.aft_model.specs.declared.door.DoorAct.{DoorAct}
use Rattle.aft_model.specs.declared.door.DoorAct.TheVariants.{Call, Claim}
use Rattle.aft_model.specs.declared.door.DoorEntry.{DoorEntry}
use Rattle.aft_model.specs.Bytes.{HasBytes}
use Rattle.aft_model.specs.Committed.{retired_by}
use Rattle.aft_model.specs.Course.{DeletesNothing}
use Rattle.aft_model.specs.History.{each_after}
use Rattle.aft_model.specs.Honest.{Honest}
use Rattle.aft_model.specs.LegalDoor.{Legal}
use Rattle.aft_model.specs.Membership.{Incarnation, incarnation, same_incarnation, the_office, ups}
use Rattle.aft_model.specs.Readings.{markers_in, record_name, records_in, versions_in, written_in}
use Rattle.aft_model.specs.Stages.{is_call_in_stage, is_claim, is_clear_to_record, is_clear_to_store, is_in_stage, is_upgraded_alone, retires_unheld_in, was_unheld}
use Rattle.aft_model.specs.Claims.{holds}
use Rattle.aft_model.proofs.Histories.{any_found}
use Rattle.aft_model.proofs.Lists.{all_from}
use Rattle.aft_model.proofs.Sights.{no_marker, no_version, read-name}
use Rattle.law_kept.specs.Kept.{Lawful}
use Rattle.law_turns.proofs.Lists.{all_append}
use Rattle.law_refused.specs.Upgrades.{is_look_or_upgrade, is_second_format, only_upgrades}

-- a rule of each entry that follows from a test of it and of each before it
along : {A : Type 0} (test : A → Bool) (rule : List A → A → Bool) → ((before : List A) (x : A) → IsTrue (list_all test before) → IsTrue (test x) → IsTrue (rule before x)) → (before xs : List A) → IsTrue (list_all test before) → IsTrue (list_all test xs) → IsTrue (each_after rule before xs)
along test rule so before [] earlier all = refl
along test rule so before (x ∷ xs) earlier all =
    let parts = and_parts (test x) (list_all test xs) all in
    and_from _ _ (so before x earlier parts.0) (along test rule so (before ++ x ∷ []) xs (all_append test before (x ∷ []) earlier (and_from _ _ parts.0 refl)) parts.1)

-- a record of the second format stands under a record's name
record_named : (name bytes : List ℕ) → IsTrue (is_second_format (record { name = name; bytes = bytes })) → (uuid : List ℕ) × (name ≡ record_name uuid)
record_named name bytes is =
    let found = any_found (λ (r : Record). true) (written_in (record { name = name; bytes = bytes })) is in
    (found.0.commit.id.uuid, read-name name (λ (r : Record). record_name r.commit.id.uuid) (record_of bytes) found.0 found.1)

no_versions : (name bytes uuid : List ℕ) → name ≡ record_name uuid → versions_in (record { name = name; bytes = bytes }) ≡ []
no_versions name bytes uuid named = ap (λ (n : List ℕ). versions_in (record { name = n; bytes = bytes })) named ∙ no_version uuid (version_of bytes)

no_markers : (name bytes uuid : List ℕ) → name ≡ record_name uuid → markers_in (record { name = name; bytes = bytes }) ≡ []
no_markers name bytes uuid named = ap (λ (n : List ℕ). markers_in (record { name = n; bytes = bytes })) named ∙ no_marker uuid (marker_of bytes)

unclaimed_act : (act : DoorAct) → IsTrue (is_look_or_upgrade act) → IsTrue (not (is_claim act))
unclaimed_act (Claim uuid node inc) is = absurd (false≢true is)
unclaimed_act act is = refl

unclaimed : (history : List DoorEntry) → IsTrue (only_upgrades history) → IsTrue (not (list_any (λ entry. is_claim entry.act) history))
unclaimed [] all = refl
unclaimed (entry ∷ history) all = (let parts = and_parts (is_look_or_upgrade entry.act) (only_upgrades history) all in neither (is_claim entry.act) (unclaimed_act entry.act parts.0) (unclaimed history parts.1))
  where
    neither : (b : Bool) → IsTrue (not b) → IsTrue (not (list_any (λ e. is_claim e.act) history)) → IsTrue (not (b || list_any (λ e. is_claim e.act) history))
    neither true other rest = absurd (false≢true other)
    neither false other rest = rest

put_in_stage : (history : List DoorEntry) (who : Incarnation) (name bytes : List ℕ) → IsTrue (only_upgrades history) → IsTrue (same_incarnation the_office who) → IsTrue (is_second_format (record { name = name; bytes = bytes })) → IsTrue (is_call_in_stage history who (Put name bytes))
put_in_stage history who name bytes earlier office is =
    let named = record_named name bytes is in
    and_from _ _ (subst (λ (vs : List Version). IsTrue (list_all (is_clear_to_store history who) vs)) (sym (no_versions name bytes named.0 named.1)) refl)
    (all_from (λ (c : Commit). is_clear_to_record history who c || is_upgraded_alone history who) (records_in (record { name = name; bytes = bytes })) (λ c among. or_right (is_clear_to_record history who c) (is_upgraded_alone history who) (and_from _ _ office (unclaimed history earlier))))

in_stage : (history : List DoorEntry) (act : DoorAct) → IsTrue (only_upgrades history) → IsTrue (is_look_or_upgrade act) → IsTrue (is_in_stage history act)
in_stage history (Call node inc (Scan prefix after limit) answer) earlier is = refl
in_stage history (Call node inc (Get name) answer) earlier is = refl
in_stage history (Call node inc (Put name bytes) answer) earlier is =
    let parts = and_parts (same_incarnation the_office (incarnation node inc)) (is_second_format (record { name = name; bytes = bytes })) is in
    put_in_stage history (incarnation node inc) name bytes earlier parts.0 parts.1
in_stage history (Call node inc (Delete name) answer) earlier is = absurd (false≢true is)
in_stage history act earlier is = refl

retires_none : (history : List DoorEntry) (act : DoorAct) → IsTrue (is_look_or_upgrade act) → IsTrue (retires_unheld_in history act)
retires_none history (Call node inc (Scan prefix after limit) answer) is = refl
retires_none history (Call node inc (Get name) answer) is = refl
retires_none history (Call node inc (Put name bytes) answer) is =
    let named = record_named name bytes (and_parts (same_incarnation the_office (incarnation node inc)) (is_second_format (record { name = name; bytes = bytes })) is).1 in
    subst (λ (ms : List Marker). IsTrue (list_all (λ (c : Commit). list_all (λ who. eqb who.node 0 || not (holds who c.id.uuid history) || was_unheld c history who) (ups history)) (flat_map retired_by ms))) (sym (no_markers name bytes named.0 named.1)) refl
retires_none history (Call node inc (Delete name) answer) is = refl
retires_none history act is = refl

pub lawful_upgrades : (history : List DoorEntry) → Legal history → HasBytes history → Honest history → IsTrue (only_upgrades history) → Lawful history
lawful_upgrades history legal made honest all = record {
  legal = legal;
  honest = honest;
  made = made;
  stages = along (λ (e : DoorEntry). is_look_or_upgrade e.act) (λ (h : List DoorEntry) (e : DoorEntry). is_in_stage h e.act) (λ h e earlier its. in_stage h e.act earlier its) [] history refl all;
  retires = along (λ (e : DoorEntry). is_look_or_upgrade e.act) (λ (h : List DoorEntry) (e : DoorEntry). retires_unheld_in h e.act) (λ h e earlier its. retires_none h e.act its) [] history refl all;
}

deletes_none : (by : By) (act : DoorAct) → IsTrue (is_look_or_upgrade act) → DeletesNothing (record { by = by; act = act } ∷ [])
deletes_none by (Call node inc (Delete name) answer) is = absurd (false≢true is)
deletes_none by (Call node inc (Get name) answer) is = refl
deletes_none by (Call node inc (Put name bytes) answer) is = refl
deletes_none by (Call node inc (Scan prefix after limit) answer) is = refl
deletes_none by act is = refl

pub upgrades_delete_none : (history : List DoorEntry) → IsTrue (only_upgrades history) → DeletesNothing history
upgrades_delete_none [] all = refl
upgrades_delete_none (entry ∷ history) all = (let parts = and_parts (is_look_or_upgrade entry.act) (only_upgrades history) all in and_from _ _ (and_parts _ _ (deletes_none entry.by entry.act parts.0)).0 (upgrades_delete_none history parts.1))
