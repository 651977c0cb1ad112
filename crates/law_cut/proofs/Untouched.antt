-- Once a node has come up, nothing is put or deleted under the names of a record that may be there, of its versions, or of its marker, while its UUID isn't marked and no full marker of it is put.
use Rattle.std.proofs.Common.{◌≡◌, ℕ, Bool, true, false, ◌&&◌, ◌||◌, not, List, [], ◌∷◌, ◌++◌, refl, sym, ap, subst, ◌∙◌, inl, inr, eqb}
use Rattle.std.specs.Prelude.{IsFalse, IsTrue, None, Option, Some, if◌then◌else◌}
use Rattle.std.specs.List.{list_all, list_any}
use Rattle.std.specs.Str.{bytes_eq}
use Rattle.std.proofs.lemmas.Bool.{and_parts, false_from_ne_true, false≢true, not-true, or_cases, true≢false}
use Rattle.aft_id.specs.declared.txn_id.TxnId.{TxnId}
use Rattle.aft_id.specs.TxnId.{IsUuid, same_id}
use Rattle.aft_keeper.specs.declared.keeper.KeeperAnswer.{KeeperAnswer}
use Rattle.aft_keeper.specs.declared.keeper.KeeperAnswer.TheVariants as answers
use Rattle.aft_keeper.specs.declared.keeper.KeeperCall.TheVariants.{Delete, Put}
use Rattle.aft_keeper.specs.declared.keeper.Pair.{Pair}
use Rattle.aft_records.specs.declared.name.Name.{Name}
use Rattle.aft_records.specs.declared.name.Name.TheVariants.{CommitOf, RetiredOf, VersionOf}
use Rattle.aft_records.specs.declared.stored.Commit.{Commit}
use Rattle.aft_records.specs.declared.stored.Marker.{Marker}
use Rattle.aft_records.specs.declared.stored.Marker.TheVariants.{Done, Full}
use Rattle.aft_records.specs.declared.stored.Record.{Record}
use Rattle.aft_records.specs.declared.stored.Version.{Version}
use Rattle.aft_records.specs.Commits.{has_uuid}
use Rattle.aft_records.specs.NameReading.{name_of}
use Rattle.aft_records.specs.Reading.{commit_of, marker_of, version_of}
use Rattle.aft_model.specs.declared.door.DoorAct.TheVariants.{Call}
use Rattle.aft_model.specs.declared.door.DoorEntry.{DoorEntry}
use Rattle.aft_model.specs.Bytes.{acts_bytes, are_bytes}
use Rattle.aft_model.specs.Claims.{claim_place, claimant, forgotten, holds, tries_delete}
use Rattle.aft_model.specs.Committed.{marked}
use Rattle.aft_model.specs.DoorKnowledge.{has_deleted, is_untouched, knows_marked, knows_record_gone, knows_stored, knows_unused, knows_versions_gone, marked_then, shows_first_format}
use Rattle.aft_model.specs.DoorRules.{is_looked_at, may_delete, may_delete_orphan, may_put, may_put_marker, may_put_record, may_put_version, may_upgrade}
use Rattle.aft_model.specs.LegalDoor.{may_come}
use Rattle.aft_model.specs.Membership.{Incarnation, incarnation, is_up, same_incarnation, the_office}
use Rattle.aft_model.specs.Readings.{id_of_marker, marker_name, markers_in, record_name, records_in, version_name, versions_in, written_in}
use Rattle.aft_model.specs.Stages.{has_versions, is_clear, is_clear_to_record, is_clear_to_store, is_in_stage, is_upgraded_alone, stage}
use Rattle.aft_model.proofs.Formats.{written_is}
use Rattle.aft_model.proofs.Histories.{In, all_at, any_found, any_from, in_back}
use Rattle.aft_model.proofs.Ids.{same_ids}
use Rattle.aft_model.proofs.OneCommit.{same_who}
use Rattle.aft_model.proofs.Sights.{bytes_eq-refl, read-name, same_bytes}
use Rattle.aft_model.proofs.Turns.{held_up}
use Rattle.law_effects.specs.Effects.{Leaves, Tries, Writes, effect_of}
use Rattle.law_names.proofs.Differ.{first_differs, spelled, version_read}
use Rattle.law_kept.specs.Kept.{Comes, Holding, Kept, Looking}
use Rattle.law_kept.specs.Outcomes.{MayBe, MayRecord, OnlyAbsent, outcomes, records_at}
use Rattle.law_kept.specs.Tried.{markers_put}
use Rattle.law_kept.proofs.Always.{kept_behind_each}
use Rattle.law_kept.proofs.Fates.{NewAt, untouched, under}
use Rattle.law_kept.proofs.LookKnown.{look_is_knowledge}
use Rattle.law_kept.proofs.PutStored.{clear_names}
use Rattle.law_kept.proofs.Steps.{Deletes, Puts, Writing, come, in_stage, made_act, writing}
use Rattle.law_kept.proofs.Written.{commit_limits, key_of_commit, marker_limits, marker_uuid, possible_limits, same_marker_name, same_record_name, same_version_id, version_limits}

module _ (c : Commit) (its : IsUuid c.id.uuid) (history : List DoorEntry) (entry : DoorEntry) (comes : Comes history entry) (kept : Kept c.id.uuid history) (may : MayRecord c.id.uuid history c)
    (unmarked : IsFalse (knows_marked c.id.uuid history)) (served : IsFalse (is_untouched history)) (unretired : (d : Commit) → In (Full d) (markers_put entry.act) → d.id.uuid ≡ c.id.uuid → ⊥) where
  abbrev uuid : List ℕ
  uuid = c.id.uuid

  -- its record may be there
  not_gone : OnlyAbsent (record_name uuid) history → ⊥
  not_gone gone = subst (λ o. In c (records_at uuid o)) (gone may.outcome may.may) may.among

  not_marked : (d : Commit) → In d (marked history) → d.id.uuid ≡ uuid → ⊥
  not_marked d among of = true≢false (sym (any_from (has_uuid uuid) d (marked history) among (subst (λ u. IsTrue (bytes_eq uuid u)) (sym of) (bytes_eq-refl uuid))) ∙ unmarked)

  -- so nobody who holds it is clear
  none_clear : (who : Incarnation) (test : List (List ℕ) → Bool) → IsTrue (holds who uuid history) → IsTrue (is_clear test (stage who uuid history)) → ⊥
  none_clear who test holds_it clear =
      let names = clear_names test (stage who uuid history) clear in
      let held = held_up who history (claimant uuid history) holds_it in
      not_gone (subst (Holding uuid who history) names.1 (kept.holding who held.0 held.1)).free.record_gone

  -- ---- a put

  module _ (node inc : ℕ) (name bytes : List ℕ) (answer : KeeperAnswer) (is : entry.act ≡ Call node inc (Put name bytes) answer) where
    abbrev who : Incarnation
    who = incarnation node inc

    abbrev pair : Pair
    pair = under name bytes

    made : IsTrue (are_bytes bytes)
    made = (and_parts (are_bytes name) (are_bytes bytes) (and_parts (are_bytes name && are_bytes bytes) _ (subst (λ act. IsTrue (acts_bytes act)) is (made_act history entry comes))).0).1

    rule : IsTrue (may_put history who pair)
    rule = (and_parts (is_up who history) (may_put history who pair) (subst (λ act. IsTrue (may_come history act)) is (come history entry comes))).1

    staged : IsTrue (list_all (is_clear_to_store history who) (versions_in pair)) × IsTrue (list_all (λ d. is_clear_to_record history who d || is_upgraded_alone history who) (records_in pair))
    staged = and_parts (list_all (is_clear_to_store history who) (versions_in pair)) (list_all (λ d. is_clear_to_record history who d || is_upgraded_alone history who) (records_in pair)) (subst (λ act. IsTrue (is_in_stage history act)) is (in_stage history entry comes))

    -- no version of its UUID is put
    no_version : (v : Version) → In v (versions_in pair) → IsTrue (may_put_version history who v) → v.id.uuid ≡ uuid → ⊥
    no_version v among puts of =
        let clear = all_at (is_clear_to_store history who) v (versions_in pair) among staged.0 in
        none_clear who (λ names. true) (subst (λ u. IsTrue (holds who u history)) of (and_parts (holds who v.id.uuid history) (knows_unused who v.id.uuid history) puts).0)
        (subst (λ u. IsTrue (is_clear (λ names. true) (stage who u history))) of (and_parts (not (eqb node 0)) (is_clear (λ names. true) (stage who v.id.uuid history)) clear).1)

    -- nor a record of it
    no_record : (r : Record) → In r (written_in pair) → IsTrue (may_put_record history who r || may_upgrade history who r) → r.commit.id.uuid ≡ uuid → ⊥
    no_record r among puts of = elim (or_cases (may_put_record history who r) (may_upgrade history who r) puts) [
      | inl at_node ↦
          (let first = and_parts (not (eqb node 0) && same_incarnation who (incarnation r.origin.node r.origin.inc) && holds who r.commit.id.uuid history) (knows_stored who r.commit history) at_node in
          let second = and_parts (not (eqb node 0) && same_incarnation who (incarnation r.origin.node r.origin.inc)) (holds who r.commit.id.uuid history) first.0 in
          let of_node = not-true (eqb node 0) (and_parts (not (eqb node 0)) (same_incarnation who (incarnation r.origin.node r.origin.inc)) second.0).0 in
          elim (or_cases (is_clear_to_record history who r.commit) (is_upgraded_alone history who) (all_at (λ d. is_clear_to_record history who d || is_upgraded_alone history who) r.commit (records_in pair) (written_is pair r among) staged.1)) [
            | inl clear ↦ none_clear who (has_versions r.commit) (subst (λ u. IsTrue (holds who u history)) of second.1)
                (subst (λ u. IsTrue (is_clear (has_versions r.commit) (stage who u history))) of (and_parts (not (eqb node 0)) (is_clear (has_versions r.commit) (stage who r.commit.id.uuid history)) clear).1)
            | inr office ↦ true≢false (sym (ap (λ (i : Incarnation). eqb i.node 0) (sym (same_who the_office who (and_parts (same_incarnation the_office who) _ office).0))) ∙ of_node)
          ])
      | inr upgrades ↦ true≢false (sym (and_parts (same_incarnation the_office who && eqb r.origin.node 0 && shows_first_format r.commit history) (is_untouched history) upgrades).1 ∙ served)
    ]

    -- nor a marker of it
    no_marker : (m : Marker) → In m (markers_in pair) → IsTrue (may_put_marker history who m) → (id_of_marker m).uuid ≡ uuid → ⊥
    no_marker (Full d) among puts of = unretired d (subst (λ act. In (Full d) (markers_put act)) (sym is) among) of
    no_marker (Done id) among puts of =
        let gone = (and_parts (same_incarnation the_office who) (knows_versions_gone id history) puts).1 in
        let d = any_found (λ (e : Commit). same_id id e.id && marked_then (has_deleted e) e history) (marked history) gone in
        not_marked d.0 d.1 (ap (λ (i : TxnId). i.uuid) (sym (same_ids id d.0.id (and_parts (same_id id d.0.id) (marked_then (has_deleted d.0) d.0 history) d.2).0)) ∙ of)

    -- so nothing is put under a name that is only of its UUID
    no_put : ((v : Version) → In v (versions_in pair) → v.id.uuid ≡ uuid) → ((r : Record) → In r (written_in pair) → r.commit.id.uuid ≡ uuid) → ((m : Marker) → In m (markers_in pair) → (id_of_marker m).uuid ≡ uuid) → ⊥
    no_put versions records markers =
        elim (or_cases (list_any (may_put_version history who) (versions_in pair) || list_any (λ r. may_put_record history who r || may_upgrade history who r) (written_in pair)) (list_any (may_put_marker history who) (markers_in pair)) rule) [
          | inl stored ↦ elim (or_cases (list_any (may_put_version history who) (versions_in pair)) (list_any (λ r. may_put_record history who r || may_upgrade history who r) (written_in pair)) stored) [
            | inl version ↦ (let v = any_found (may_put_version history who) (versions_in pair) version in no_version v.0 v.1 v.2 (versions v.0 v.1))
            | inr record_put ↦ (let r = any_found (λ r. may_put_record history who r || may_upgrade history who r) (written_in pair) record_put in no_record r.0 r.1 r.2 (records r.0 r.1))
          ]
          | inr marker ↦ (let m = any_found (may_put_marker history who) (markers_in pair) marker in no_marker m.0 m.1 m.2 (markers m.0 m.1))
        ]

    version_named : (v : Version) → In v (versions_in pair) → name ≡ version_name v.key v.id
    version_named v among = read-name name (λ (w : Version). version_name w.key w.id) (version_of bytes) v among

    record_named : (r : Record) → In r (written_in pair) → name ≡ record_name r.commit.id.uuid
    record_named r among = read-name name (λ (d : Commit). record_name d.id.uuid) (commit_of bytes) r.commit (written_is pair r among)

    marker_named : (m : Marker) → In m (markers_in pair) → name ≡ marker_name (id_of_marker m).uuid
    marker_named m among = read-name name (λ (n : Marker). marker_name (id_of_marker n).uuid) (marker_of bytes) m among

    no_put_record : name ≡ record_name uuid → ⊥
    no_put_record named = no_put
        (λ v among. absurd (first_differs 99 118 _ _ refl (sym named ∙ version_named v among)))
        (λ r among. sym (same_record_name uuid r.commit.id.uuid its (commit_limits pair r.commit made (written_is pair r among)).0.id.uuid (sym named ∙ record_named r among)))
        (λ m among. absurd (first_differs 99 114 _ _ refl (sym named ∙ marker_named m among)))

    no_put_marker : name ≡ marker_name uuid → ⊥
    no_put_marker named = no_put
        (λ v among. absurd (first_differs 114 118 _ _ refl (sym named ∙ version_named v among)))
        (λ r among. absurd (first_differs 114 99 _ _ refl (sym named ∙ record_named r among)))
        (λ m among. sym (same_marker_name uuid (id_of_marker m).uuid its (marker_uuid m (marker_limits pair m made among)) (sym named ∙ marker_named m among)))

    no_put_version : (key : List ℕ) → In key c.keys → name ≡ version_name key c.id → ⊥
    no_put_version key within named = no_put
        (λ v among. (let limits = possible_limits uuid history kept c may in
        let its_limits = version_limits pair v made among in
        ap (λ (i : TxnId). i.uuid) (sym (same_version_id key v.key c.id v.id (key_of_commit c limits key within) its_limits.0.key limits.0.id its_limits.0.id (sym named ∙ version_named v among)))))
        (λ r among. absurd (first_differs 118 99 _ _ refl (sym named ∙ record_named r among)))
        (λ m among. absurd (first_differs 118 114 _ _ refl (sym named ∙ marker_named m among)))

  -- ---- a delete

  module _ (node inc : ℕ) (name : List ℕ) (answer : KeeperAnswer) (is : entry.act ≡ Call node inc (Delete name) answer) where
    rule_of : IsTrue (may_delete history (incarnation node inc) (name_of name))
    rule_of = (and_parts (is_up (incarnation node inc) history) (may_delete history (incarnation node inc) (name_of name)) (subst (λ act. IsTrue (may_come history act)) is (come history entry comes))).1

    no_delete_record : name ≡ record_name uuid → ⊥
    no_delete_record named = by_name (name_of name) refl rule_of
      where
        by_name : (o : Option Name) → name_of name ≡ o → IsTrue (may_delete history (incarnation node inc) o) → ⊥
        by_name None e allowed_by = false≢true allowed_by
        by_name (Some (CommitOf other)) e allowed_by =
            let spelling = spelled name (CommitOf other) e in
            let same : uuid ≡ other = same_record_name uuid other its spelling.0.0 (sym named ∙ spelling.1) in
            true≢false (sym (subst (λ u. IsTrue (knows_marked u history)) (sym same) (and_parts (same_incarnation the_office (incarnation node inc)) (knows_marked other history) allowed_by).1) ∙ unmarked)
        by_name (Some (VersionOf key id)) e allowed_by = first_differs 99 118 _ _ refl (sym named ∙ (spelled name (VersionOf key id) e).1)
        by_name (Some (RetiredOf other)) e allowed_by = first_differs 99 114 _ _ refl (sym named ∙ (spelled name (RetiredOf other) e).1)

    no_delete_marker : name ≡ marker_name uuid → ⊥
    no_delete_marker named =
        let behind : Kept uuid (history ++ entry ∷ []) = kept_behind_each uuid its history entry comes kept in
        let forgets : IsTrue (forgotten uuid (history ++ entry ∷ [])) =
        any_from (λ (e : DoorEntry). tries_delete (marker_name uuid) e.act) entry (history ++ entry ∷ []) (in_back entry history (entry ∷ []) (inl refl)) (subst (λ act. IsTrue (tries_delete (marker_name uuid) act)) (sym is) (subst (λ n. IsTrue (bytes_eq (marker_name uuid) n)) (sym named) (bytes_eq-refl (marker_name uuid)))) in
        let still : MayBe (record_name uuid) (history ++ entry ∷ []) may.outcome = subst (λ m. In may.outcome (outcomes m)) (sym (untouched history entry (record_name uuid) (ap (effect_of (record_name uuid)) is ∙ leaves_record))) may.may in
        subst (λ o. In c (records_at uuid o)) (behind.forgotten_gone forgets may.outcome still) may.among
      where
        other : bytes_eq (record_name uuid) name ≡ false
        other = false_from_ne_true (bytes_eq (record_name uuid) name) (λ same. first_differs 99 114 _ _ refl (same_bytes (record_name uuid) name same ∙ named))

        leaves_record : effect_of (record_name uuid) (Call node inc (Delete name) answer) ≡ Leaves
        leaves_record = by_answer answer
          where
            by_answer : (a : KeeperAnswer) → effect_of (record_name uuid) (Call node inc (Delete name) a) ≡ Leaves
            by_answer answers.Done = ap (λ t. if t then Writes None else Leaves) other
            by_answer answers.Failed = ap (λ t. if t then Tries None else Leaves) other
            by_answer a = refl

    no_delete_version : (key : List ℕ) → In key c.keys → name ≡ version_name key c.id → ⊥
    no_delete_version key within named = by_name (name_of name) refl rule_of
      where
        by_name : (o : Option Name) → name_of name ≡ o → IsTrue (may_delete history (incarnation node inc) o) → ⊥
        by_name None e allowed_by = false≢true allowed_by
        by_name (Some (CommitOf other)) e allowed_by = first_differs 118 99 _ _ refl (sym named ∙ (spelled name (CommitOf other) e).1)
        by_name (Some (RetiredOf other)) e allowed_by = first_differs 118 114 _ _ refl (sym named ∙ (spelled name (RetiredOf other) e).1)
        by_name (Some (VersionOf k i)) e allowed_by =
            let limits = possible_limits uuid history kept c may in
            let same : c.id ≡ i = (version_read key k c.id i (key_of_commit c limits key within) limits.0.id (sym (ap name_of named) ∙ e)).1 in
            elim (or_cases (knows_record_gone i history) (may_delete_orphan history i) (and_parts (same_incarnation the_office (incarnation node inc)) (knows_record_gone i history || may_delete_orphan history i) allowed_by).1) [
              | inl gone ↦ not_gone (kept.gone i (inl gone) (ap (λ (j : TxnId). j.uuid) (sym same)))
              | inr orphan ↦ of_none i same orphan
            ]
          where
            of_none : (i : TxnId) → c.id ≡ i → IsTrue (may_delete_orphan history i) → ⊥
            of_none i same orphan =
                let allowed : IsTrue (may_delete_orphan history c.id) = subst (λ j. IsTrue (may_delete_orphan history j)) (sym same) orphan in
                let held = (held_up the_office history (claimant uuid history) (and_parts (holds the_office uuid history) (is_looked_at c.id history (claim_place uuid history)) allowed).0).0 in
                (subst (Looking c.id history) (look_is_knowledge c.id history allowed) (kept.looking c.id refl held)).0 c may refl

  -- ---- any entry

  pub record_stays : (o : Option (List ℕ)) → NewAt (record_name uuid) entry.act o → ⊥
  record_stays o new = by_writing o (writing (record_name uuid) entry.act o new)
    where
      by_writing : (p : Option (List ℕ)) → Writing (record_name uuid) entry.act p → ⊥
      by_writing p (Puts node inc bytes answer is) = no_put_record node inc (record_name uuid) bytes answer is refl
      by_writing p (Deletes node inc answer is) = no_delete_record node inc (record_name uuid) answer is refl

  pub marker_stays : (o : Option (List ℕ)) → NewAt (marker_name uuid) entry.act o → ⊥
  marker_stays o new = by_writing o (writing (marker_name uuid) entry.act o new)
    where
      by_writing : (p : Option (List ℕ)) → Writing (marker_name uuid) entry.act p → ⊥
      by_writing p (Puts node inc bytes answer is) = no_put_marker node inc (marker_name uuid) bytes answer is refl
      by_writing p (Deletes node inc answer is) = no_delete_marker node inc (marker_name uuid) answer is refl

  pub version_stays : (key : List ℕ) → In key c.keys → (o : Option (List ℕ)) → NewAt (version_name key c.id) entry.act o → ⊥
  version_stays key within o new = by_writing o (writing (version_name key c.id) entry.act o new)
    where
      by_writing : (p : Option (List ℕ)) → Writing (version_name key c.id) entry.act p → ⊥
      by_writing p (Puts node inc bytes answer is) = no_put_version node inc (version_name key c.id) bytes answer is key within refl
      by_writing p (Deletes node inc answer is) = no_delete_version node inc (version_name key c.id) answer is key within refl
