-- What follows from what is kept of a UUID: its commit is whole until it is superseded, its id is closed until it is forgotten, and what the office deletes as an orphan is of no commit.
use Rattle.std.proofs.Common.{◌≡◌, ℕ, Bool, ◌&&◌, List, refl, sym, subst, ◌∙◌, ◌⊎◌, inl, inr}
use Rattle.std.specs.Prelude.{IsTrue, IsFalse, Option, Some, None}
use Rattle.std.specs.Str.{bytes_eq}
use Rattle.std.proofs.lemmas.Bool.{and_from, and_parts, cases_Bool, true≢false, false_from_ne_true}
use Rattle.aft_id.specs.declared.txn_id.TxnId.{TxnId}
use Rattle.aft_id.specs.TxnId.{same_id}
use Rattle.aft_records.specs.declared.stored.Commit.{Commit}
use Rattle.aft_records.specs.declared.stored.Marker.TheVariants.{Full}
use Rattle.aft_records.specs.declared.stored.Version.{Version}
use Rattle.aft_records.specs.Commits.{has_uuid, same_commit}
use Rattle.aft_records.specs.Reading.{version_of}
use Rattle.aft_records.specs.Superseded.{is_superseded}
use Rattle.aft_model.specs.declared.door.DoorEntry.{DoorEntry}
use Rattle.aft_model.specs.Claims.{claim_place, claimant, forgotten, holds}
use Rattle.aft_model.specs.Committed.{Committed, committed, marked}
use Rattle.aft_model.specs.DoorKnowledge.{knows_marked}
use Rattle.aft_model.specs.DoorRules.{is_looked_at, may_delete_orphan}
use Rattle.aft_model.specs.MayHold.{MayHold, OneOf, Unknown, may_hold}
use Rattle.aft_model.specs.Membership.{the_office}
use Rattle.aft_model.specs.Readings.{is_record_of, is_version_at, marker_name, record_name, records_in, version_name, versions_in}
use Rattle.aft_model.specs.Whole.{Whole, has_version, is_there, surely, surely_one}
use Rattle.aft_model.proofs.Histories.{In, any_found, any_from}
use Rattle.aft_model.proofs.Ids.{same_commits, same_id-refl}
use Rattle.aft_model.proofs.Lists.{all_from}
use Rattle.aft_model.proofs.Sights.{bytes_eq-refl, read-name, same_bytes}
use Rattle.aft_model.proofs.Turns.{held_up}
use Rattle.law_names.proofs.Differ.{versions}
use Rattle.law_kept.specs.Kept.{CommittedId, Kept, Looking}
use Rattle.law_kept.specs.Outcomes.{CommittedOf, MayBe, MayRecord, NeverAbsent, outcomes, records_at}
use Rattle.law_kept.proofs.Fates.{record_read, under}
use Rattle.law_kept.proofs.Gone.{full_proven}
use Rattle.law_kept.proofs.LookKnown.{look_is_knowledge}
use Rattle.law_kept.proofs.PutMarker.{same_commit_itself}
use Rattle.law_kept.proofs.Written.{key_of_commit, possible_limits, version_limits}

-- a commit that a history has committed is one of its commits
pub committed_among : (c : Commit) (history : List DoorEntry) → Committed c history → In c (committed history)
committed_among c history is = let found = any_found (same_commit c) (committed history) is in subst (λ d. In d (committed history)) (sym (same_commits c found.0 found.2)) found.1

pub one_commit : (c d : Commit) (history : List DoorEntry) → Kept c.id.uuid history → Committed c history → Committed d history → c.id.uuid ≡ d.id.uuid → c ≡ d
one_commit c d history kept of_c of_d same = kept.one c d (inl (committed_among c history of_c, refl)) (inl (committed_among d history of_d, sym same))

surely_each : (test : Option (List ℕ) → Bool) (may : MayHold) → (outcome : Option (List ℕ)) × In outcome (outcomes may) → ((o : Option (List ℕ)) → In o (outcomes may) → IsTrue (test o)) → IsTrue (surely test may)
surely_each test Unknown some each = absurd some.1
surely_each test (OneOf os) some each = all_from test os each

module _ (c : Commit) (history : List DoorEntry) (kept : Kept c.id.uuid history) (is : Committed c history) where
  abbrev its : CommittedOf c.id.uuid history c
  its = (committed_among c history is, refl)

  pub closed : IsFalse (forgotten c.id.uuid history) → NeverAbsent (record_name c.id.uuid) history ⊎ NeverAbsent (marker_name c.id.uuid) history
  closed un = elim (cases_Bool (knows_marked c.id.uuid history)) [
    | inl marks ↦ (let found = any_found (has_uuid c.id.uuid) (marked history) marks in
        inr (kept.sure (Full found.0) (full_proven found.0 history found.1, sym (same_bytes c.id.uuid found.0.id.uuid found.2)) un))
    | inr unmarked ↦ inl (kept.there c its unmarked)
  ]

  module _ (newest : IsFalse (is_superseded c (committed history))) where
    unmarked : IsFalse (knows_marked c.id.uuid history)
    unmarked = false_from_ne_true (knows_marked c.id.uuid history) not_marked
      where
        not_marked : IsTrue (knows_marked c.id.uuid history) → ⊥
        not_marked marks =
            let found = any_found (has_uuid c.id.uuid) (marked history) marks in
            let of : found.0.id.uuid ≡ c.id.uuid = sym (same_bytes c.id.uuid found.0.id.uuid found.2) in
            let full = kept.full found.0 (kept.marked_tried (Full found.0) (inr (full_proven found.0 history found.1, of))) of in
            elim full.1 [
              | inl committed_it ↦ true≢false (sym (subst (λ (d : Commit). IsTrue (is_superseded d (committed history))) (kept.one found.0 c (inl (committed_it, of)) (inl its)) full.0) ∙ newest)
              | inr retired ↦ retired.uncommitted c its
            ]

    is_possible : (bytes : List ℕ) (may : MayBe (record_name c.id.uuid) history (Some bytes)) → In c (records_at c.id.uuid (Some bytes))
    is_possible bytes may =
        let read = kept.records_known.each bytes may in
        let same : read.1 ≡ c = kept.one read.1 c (inr (record { outcome = Some bytes; may = may; among = read.2 })) (inl its) in
        subst (λ (d : Commit). In d (records_at c.id.uuid (Some bytes))) same read.2

    recorded_there : (o : Option (List ℕ)) → MayBe (record_name c.id.uuid) history o → IsTrue (is_there (λ bytes. is_record_of c (record { name = record_name c.id.uuid; bytes = bytes })) o)
    recorded_there None may = absurd (kept.there c its unmarked may)
    recorded_there (Some bytes) may = any_from (same_commit c) c (records_in (under (record_name c.id.uuid) bytes)) (record_read c.id.uuid bytes c (is_possible bytes may)) (same_commit_itself c)

    possible_from : (o : Option (List ℕ)) → MayBe (record_name c.id.uuid) history o → MayRecord c.id.uuid history c
    possible_from None may = absurd (kept.there c its unmarked may)
    possible_from (Some bytes) may = record { outcome = Some bytes; may = may; among = is_possible bytes may }

    may_record : MayRecord c.id.uuid history c
    may_record = possible_from kept.records_known.some.0 kept.records_known.some.1

    version_there : (key : List ℕ) → In key c.keys → IsTrue (has_version c history key)
    version_there key among =
        let stored = kept.whole c may_record key among in
        let limits = version_limits (under (version_name key c.id) stored.bytes) stored.version stored.made stored.reads in
        let its_limits = possible_limits c.id.uuid history kept c may_record in
        let same = versions key stored.version.key c.id stored.version.id (key_of_commit c its_limits key among) limits.0.key its_limits.0.id limits.0.id
        (read-name (version_name key c.id) (λ (w : Version). version_name w.key w.id) (version_of stored.bytes) stored.version stored.reads) in
        let passes : IsTrue (bytes_eq key stored.version.key && same_id c.id stored.version.id) =
        and_from _ _ (subst (λ k. IsTrue (bytes_eq key k)) same.0 (bytes_eq-refl key)) (subst (λ i. IsTrue (same_id c.id i)) same.1 (same_id-refl c.id)) in
        let at : IsTrue (is_version_at key c.id (under (version_name key c.id) stored.bytes)) =
        any_from (λ (v : Version). bytes_eq key v.key && same_id c.id v.id) stored.version (versions_in (under (version_name key c.id) stored.bytes)) stored.reads passes in
        subst (λ may. IsTrue (surely_one (λ bytes. is_version_at key c.id (record { name = version_name key c.id; bytes = bytes })) may)) (sym stored.only) (and_from _ _ at refl)

    pub whole_commit : Whole c history
    whole_commit =
        and_from _ _ (surely_each (is_there (λ bytes. is_record_of c (record { name = record_name c.id.uuid; bytes = bytes }))) (may_hold (record_name c.id.uuid) history) kept.records_known.some recorded_there)
        (all_from (has_version c history) c.keys version_there)

-- what the rule on orphan versions lets the office delete is of no commit
pub orphan_of_none : (id : TxnId) (history : List DoorEntry) → Kept id.uuid history → IsTrue (may_delete_orphan history id) → CommittedId id history → ⊥
orphan_of_none id history kept may =
    let held = (held_up the_office history (claimant id.uuid history) (and_parts (holds the_office id.uuid history) (is_looked_at id history (claim_place id.uuid history)) may).0).0 in
    (subst (Looking id history) (look_is_knowledge id history may) (kept.looking id refl held)).1
