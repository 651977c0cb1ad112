-- What is there of a commit whose UUID isn't marked, and what is shown to who looks for it.
use Rattle.std.proofs.Common.{◌≡◌, ℕ, Bool, ◌&&◌, List, [], ◌∷◌, ◌++◌, refl, sym, ap, subst, ◌∙◌, inl, inr}
use Rattle.std.specs.Prelude.{IsTrue, IsFalse, Option, Some, None, if◌then◌else◌}
use Rattle.std.specs.Str.{bytes_eq}
use Rattle.std.proofs.lemmas.Bool.{and_from}
use Rattle.aft_id.specs.TxnId.{IsUuid, same_id}
use Rattle.aft_keeper.specs.declared.keeper.KeeperAnswer.TheVariants.{Found}
use Rattle.aft_keeper.specs.declared.keeper.KeeperCall.TheVariants.{Get}
use Rattle.aft_records.specs.declared.stored.Commit.{Commit}
use Rattle.aft_records.specs.declared.stored.Version.{Version}
use Rattle.aft_records.specs.Commits.{same_commit}
use Rattle.aft_records.specs.Reading.{commit_of, version_of}
use Rattle.aft_records.specs.Stored.{IsCommit}
use Rattle.aft_model.specs.declared.door.DoorAct.TheVariants.{Call}
use Rattle.aft_model.specs.declared.door.DoorEntry.{DoorEntry}
use Rattle.aft_model.specs.Claims.{claimant, forgotten, holds}
use Rattle.aft_model.specs.Committed.{Committed}
use Rattle.aft_model.specs.Course.{DeletesNothing}
use Rattle.aft_model.specs.DoorKnowledge.{is_open, knows_marked}
use Rattle.aft_model.specs.Evidence.{shows_absent}
use Rattle.aft_model.specs.MayHold.{MayHold, OneOf, Unknown, may_hold}
use Rattle.aft_model.specs.Membership.{Incarnation, incarnation}
use Rattle.aft_model.specs.Readings.{is_record_of, is_version_at, marker_name, record_name, records_in, version_name, versions_in}
use Rattle.aft_model.specs.Stages.{HasPut, IsClear, stage}
use Rattle.aft_model.specs.Whole.{Whole, has_version, is_there, surely, surely_one}
use Rattle.aft_model.proofs.Histories.{In, any_from}
use Rattle.aft_model.proofs.Ids.{same_id-refl}
use Rattle.aft_model.proofs.Lists.{all_from}
use Rattle.aft_model.proofs.Sights.{bytes_eq-refl, read-name, read-one}
use Rattle.aft_model.proofs.Turns.{held_up}
use Rattle.law_effects.specs.Effects.{Shows, effect_of, sight_effect}
use Rattle.law_names.proofs.Differ.{versions}
use Rattle.law_kept.specs.Kept.{Holding, Kept, Lawful, Recording, Unused}
use Rattle.law_kept.specs.Outcomes.{CommittedOf, MayBe, MayRecord, outcomes, records_at}
use Rattle.law_kept.proofs.Always.{lawful_begins}
use Rattle.law_kept.proofs.Fates.{record_read, shown_before, under}
use Rattle.law_kept.proofs.Gives.{committed_among}
use Rattle.law_kept.proofs.PutMarker.{same_commit_itself}
use Rattle.law_kept.proofs.Quiet.{unmarked_where_absent}
use Rattle.law_kept.proofs.Steps.{absent_effect}
use Rattle.law_kept.proofs.Written.{key_of_commit, possible_limits, version_limits}
use Rattle.law_whole.proofs.Throughout.{its_uuid, kept_open}

surely_each : (test : Option (List ℕ) → Bool) (may : MayHold) → (outcome : Option (List ℕ)) × In outcome (outcomes may) → ((o : Option (List ℕ)) → In o (outcomes may) → IsTrue (test o)) → IsTrue (surely test may)
surely_each test Unknown some each = absurd some.1
surely_each test (OneOf os) some each = all_from test os each

module _ (c : Commit) (history : List DoorEntry) (kept : Kept c.id.uuid history) where
  -- a version that its name surely holds is of the key and the id
  module _ (may : MayRecord c.id.uuid history c) (key : List ℕ) (among : In key c.keys) where
    abbrev stored_text : List ℕ
    stored_text = (kept.whole c may key among).bytes

    abbrev stored_version : Version
    stored_version = (kept.whole c may key among).version

    pub same_version : (key ≡ stored_version.key) × (c.id ≡ stored_version.id)
    same_version =
        let stored = kept.whole c may key among in
        let limits = version_limits (under (version_name key c.id) stored.bytes) stored.version stored.made stored.reads in
        let its_limits : IsCommit c = possible_limits c.id.uuid history kept c may in
        versions key stored.version.key c.id stored.version.id (key_of_commit c its_limits key among) limits.0.key its_limits.0.id limits.0.id
        (read-name (version_name key c.id) (λ (w : Version). version_name w.key w.id) (version_of stored.bytes) stored.version stored.reads)

  module _ (its : CommittedOf c.id.uuid history c) (present : MayBe (record_name c.id.uuid) history None → ⊥) where
    is_possible : (bytes : List ℕ) → MayBe (record_name c.id.uuid) history (Some bytes) → In c (records_at c.id.uuid (Some bytes))
    is_possible bytes may =
        let read = kept.records_known.each bytes may in
        let same : read.1 ≡ c = kept.one read.1 c (inr (record { outcome = Some bytes; may = may; among = read.2 })) (inl its) in
        subst (λ (d : Commit). In d (records_at c.id.uuid (Some bytes))) same read.2

    recorded_there : (o : Option (List ℕ)) → MayBe (record_name c.id.uuid) history o → IsTrue (is_there (λ bytes. is_record_of c (record { name = record_name c.id.uuid; bytes = bytes })) o)
    recorded_there None may = absurd (present may)
    recorded_there (Some bytes) may = any_from (same_commit c) c (records_in (under (record_name c.id.uuid) bytes)) (record_read c.id.uuid bytes c (is_possible bytes may)) (same_commit_itself c)

    possible_from : (o : Option (List ℕ)) → MayBe (record_name c.id.uuid) history o → MayRecord c.id.uuid history c
    possible_from None may = absurd (present may)
    possible_from (Some bytes) may = record { outcome = Some bytes; may = may; among = is_possible bytes may }

    pub may_record : MayRecord c.id.uuid history c
    may_record = possible_from kept.records_known.some.0 kept.records_known.some.1

    version_there : (key : List ℕ) → In key c.keys → IsTrue (has_version c history key)
    version_there key among =
        let stored = kept.whole c may_record key among in
        let same = same_version may_record key among in
        let passes : IsTrue (bytes_eq key stored.version.key && same_id c.id stored.version.id) =
        and_from _ _ (subst (λ k. IsTrue (bytes_eq key k)) same.0 (bytes_eq-refl key)) (subst (λ i. IsTrue (same_id c.id i)) same.1 (same_id-refl c.id)) in
        let at : IsTrue (is_version_at key c.id (under (version_name key c.id) stored.bytes)) =
        any_from (λ (v : Version). bytes_eq key v.key && same_id c.id v.id) stored.version (versions_in (under (version_name key c.id) stored.bytes)) stored.reads passes in
        subst (λ may. IsTrue (surely_one (λ bytes. is_version_at key c.id (record { name = version_name key c.id; bytes = bytes })) may)) (sym stored.only) (and_from _ _ at refl)

    pub there_whole : Whole c history
    there_whole =
        and_from _ _ (surely_each (is_there (λ bytes. is_record_of c (record { name = record_name c.id.uuid; bytes = bytes }))) (may_hold (record_name c.id.uuid) history) kept.records_known.some recorded_there)
        (all_from (has_version c history) c.keys version_there)

-- ---- what an entry at the open door shows

module _ (uuid : List ℕ) (its : IsUuid uuid) (history : List DoorEntry) (entry : DoorEntry) (opened : IsTrue (is_open history)) (lawful : Lawful (history ++ entry ∷ [])) where
  pub kept_before : Kept uuid history
  kept_before = kept_open uuid its history opened (lawful_begins history (entry ∷ []) lawful)

  -- where the marker of a UUID that isn't forgotten is shown absent, the UUID isn't marked
  pub unmarked_before : IsTrue (shows_absent (marker_name uuid) entry) → IsFalse (forgotten uuid history) → IsTrue (knows_marked uuid history) → ⊥
  unmarked_before absent un marks =
      unmarked_where_absent uuid history kept_before un
      (shown_before history entry (marker_name uuid) lawful.honest kept_before.markers_known.some None (absent_effect (marker_name uuid) entry.act absent)) marks

  -- where nothing was deleted, the record of a UUID that has a commit isn't shown absent
  pub never_shown_absent : (c : Commit) → CommittedOf uuid history c → DeletesNothing history → IsTrue (shows_absent (record_name uuid) entry) → ⊥
  never_shown_absent c of untouched absent =
      kept_before.undeleted c of untouched
      (shown_before history entry (record_name uuid) lawful.honest kept_before.records_known.some None (absent_effect (record_name uuid) entry.act absent))

  -- who holds the UUID gets its record
  module _ (node inc : ℕ) (bytes : List ℕ) (held : IsTrue (holds (incarnation node inc) uuid history)) (is : entry.act ≡ Call node inc (Get (record_name uuid)) (Found bytes)) where
    abbrev who : Incarnation
    who = incarnation node inc

    found_before : MayBe (record_name uuid) history (Some bytes)
    found_before =
        let shows : effect_of (record_name uuid) entry.act ≡ Shows (Some bytes) =
        ap (λ act. effect_of (record_name uuid) act) is ∙ ap (λ t. sight_effect (if t then Some (Some bytes) else None)) (bytes_eq-refl (record_name uuid)) in
        shown_before history entry (record_name uuid) lawful.honest kept_before.records_known.some (Some bytes) shows

    its_holding : Holding uuid who history (stage who uuid history)
    its_holding = let both = held_up who history (claimant uuid history) held in kept_before.holding who both.0 both.1

    absent_is_none : Some bytes ≡ None → ⊥
    absent_is_none e = cc

    pub clear_finds_none : (names : List (List ℕ)) → stage who uuid history ≡ IsClear names → ⊥
    clear_finds_none names clear =
        let unused : Unused uuid who names history = subst (Holding uuid who history) clear its_holding in
        absent_is_none (unused.free.record_gone (Some bytes) found_before)

    pub put_finds_own : (d : Commit) → stage who uuid history ≡ HasPut d → IsTrue (is_record_of d (under (record_name uuid) bytes)) × ((c : Commit) → In c (records_in (under (record_name uuid) bytes)) → c ≡ d)
    put_finds_own d put =
        let recording : Recording uuid who d history = subst (Holding uuid who history) put its_holding in
        let read = kept_before.records_known.each bytes found_before in
        let own : read.1 ≡ d = recording.alone read.1 (inr (record { outcome = Some bytes; may = found_before; among = read.2 })) in
        let there : In read.1 (records_in (under (record_name uuid) bytes)) = record_read uuid bytes read.1 read.2 in (
          any_from (same_commit d) d (records_in (under (record_name uuid) bytes)) (subst (λ (e : Commit). In e (records_in (under (record_name uuid) bytes))) own there) (same_commit_itself d),
          λ c among. read-one (record_name uuid) (λ (e : Commit). record_name e.id.uuid) (commit_of bytes) c read.1 among there ∙ own,
        )

pub unmarked_whole : (c : Commit) (history : List DoorEntry) → Lawful history → IsTrue (is_open history) → Committed c history → IsFalse (knows_marked c.id.uuid history) → Whole c history
unmarked_whole c history lawful opened is unmarked =
    let among = committed_among c history is in
    let kept = kept_open c.id.uuid (its_uuid history lawful c among) history opened lawful in
    there_whole c history kept (among, refl) (kept.there c (among, refl) unmarked)
