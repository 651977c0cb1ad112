-- Where the door has just been opened, each UUID is kept.
use Rattle.std.proofs.Common.{◌≡◌, ℕ, Bool, true, false, ◌&&◌, ◌||◌, ◌==◌, not, List, [], ◌∷◌, ◌++◌, refl, sym, ap, subst, ◌∙◌, ◌⊎◌, inl, inr, length}
use Rattle.std.specs.Prelude.{IsTrue, IsFalse, Option, Some, None}
use Rattle.std.specs.List.{flat_map, list_any}
use Rattle.std.specs.Str.{bytes_eq}
use Rattle.std.proofs.lemmas.Bool.{and_from, and_parts, or_cases, or_parts, false≢true, true≢false, false_from_ne_true}
use Rattle.aft_id.specs.declared.txn_id.TxnId.{TxnId}
use Rattle.aft_id.specs.TxnId.{IsUuid, id_lt, same_id}
use Rattle.aft_keeper.specs.declared.keeper.Pair.{Pair}
use Rattle.aft_records.specs.declared.stored.Commit.{Commit}
use Rattle.aft_records.specs.declared.stored.Marker.{Marker}
use Rattle.aft_records.specs.declared.stored.Marker.TheVariants.{Done, Full}
use Rattle.aft_records.specs.declared.stored.Version.{Version}
use Rattle.aft_records.specs.Commits.{has_uuid, is_among, same_commit}
use Rattle.aft_records.specs.Reading.{commit_of, marker_of, version_of}
use Rattle.aft_records.specs.Superseded.{Superseded, is_superseded, wrote}
use Rattle.aft_model.specs.declared.door.DoorAct.TheVariants.{Opened}
use Rattle.aft_model.specs.declared.door.DoorEntry.{DoorEntry}
use Rattle.aft_model.specs.Bytes.{are_bytes}
use Rattle.aft_model.specs.Claims.{claimant, claimant_after, forgotten, is_held_by, tries_delete}
use Rattle.aft_model.specs.Committed.{committed, committed_by, marked, marked_by, proven_pairs}
use Rattle.aft_model.specs.DoorKnowledge.{deletes, knows_record_gone, marked_then, shows_gone}
use Rattle.aft_model.specs.Evidence.{pairs_in, shown_pairs, shows_absent, stored_in}
use Rattle.aft_model.specs.History.{followed}
use Rattle.aft_model.specs.Membership.{Incarnation, the_office}
use Rattle.aft_model.specs.Opening.{all_shown}
use Rattle.aft_model.specs.Readings.{id_of_marker, is_version_at, marker_name, markers_in, record_name, records_in, version_name, versions_in}
use Rattle.aft_model.specs.Sound.{marker_offends, markers_prefix, recorded, records_prefix}
use Rattle.aft_model.proofs.Histories.{In, all_at, any_found, any_from, in_append, in_back, in_flat_map, in_front}
use Rattle.aft_model.proofs.Ids.{same_commits, same_ids}
use Rattle.aft_model.proofs.Lists.{all_from, in_snoc}
use Rattle.aft_model.proofs.Sights.{bytes_eq-refl, read-name, same_bytes}
use Rattle.law_kept.specs.Kept.{CommittedId, Kept, Lawful, Readable}
use Rattle.law_kept.specs.Outcomes.{Appears, CommittedOf, MayBe, MayMark, MayRecord, NeverAbsent, OnlyAbsent, ProvenOf, Stored, markers_at, proven_markers, records_at}
use Rattle.law_kept.specs.Tried.{RetiredBefore, Tried, began_to_delete, deletes_of, markers_put}
use Rattle.law_kept.proofs.Fates.{marker_read, markers_under, one_record, record_of_uuid, record_read, records_under, under}
use Rattle.law_kept.proofs.Gone.{flat_map_in}
use Rattle.law_kept.proofs.Quiet.{nothing_new}
use Rattle.law_kept.proofs.Shown.{ShownIn}
use Rattle.law_kept.proofs.Steps.{gone_effect}
use Rattle.law_kept.proofs.Written.{commit_limits, marker_limits, marker_uuid, same_marker_name, same_record_name}
use Rattle.law_opened.proofs.Acts.{claimed_by_none, quiet_deletes, quiet_markers, quiet_stored, quiet_tries, sight_claims, some_of_some}
use Rattle.law_opened.proofs.Opened.{clean, each_entry, held, held_may, held_only, only_before, pair_made, pair_of_shown, pair_shown, quiet, run_shows, sights_before, version_shown, was_shown, at_opening}

none_some : (o : Option (List ℕ)) (bytes : List ℕ) → o ≡ None → o ≡ Some bytes → ⊥
none_some o bytes a b = absurd (cc)

module _ (uuid : List ℕ) (its : IsUuid uuid) (history : List DoorEntry) (entry : DoorEntry) (lawful : Lawful (history ++ entry ∷ [])) (opened : entry.act ≡ Opened) where
  abbrev longer : List DoorEntry
  longer = history ++ entry ∷ []

  abbrev shown_all : List Pair
  shown_all = all_shown history

  abbrev the_record : List ℕ
  the_record = record_name uuid

  abbrev the_marker : List ℕ
  the_marker = marker_name uuid

  -- ---- what was read

  pub record_seen : (o : Option (List ℕ)) × ShownIn the_record longer o
  record_seen = run_shows history entry lawful opened records_prefix the_record (at_opening history entry lawful opened).records_run refl

  pub marker_seen : (o : Option (List ℕ)) × ShownIn the_marker longer o
  marker_seen = run_shows history entry lawful opened markers_prefix the_marker (at_opening history entry lawful opened).markers_run refl

  record_reads : (bytes : List ℕ) → MayBe the_record longer (Some bytes) → (c : Commit) × In c (records_at uuid (Some bytes))
  record_reads bytes may =
      let there = pair_of_shown history entry lawful opened the_record bytes (was_shown history entry lawful opened the_record (Some bytes) may) in
      let some = some_of_some (records_in (under the_record bytes)) (clean history entry lawful opened (under the_record bytes) there) in
      let limits = commit_limits (under the_record bytes) some.0 (pair_made history entry lawful opened (under the_record bytes) there) some.1 in
      let named = read-name the_record (λ (d : Commit). record_name d.id.uuid) (commit_of bytes) some.0 some.1 in
      (some.0, (records_under uuid (under the_record bytes) some.0 some.1 (sym (same_record_name uuid some.0.id.uuid its limits.0.id.uuid named))).1)

  marker_reads : (bytes : List ℕ) → MayBe the_marker longer (Some bytes) → (m : Marker) × In m (markers_at uuid (Some bytes))
  marker_reads bytes may =
      let there = pair_of_shown history entry lawful opened the_marker bytes (was_shown history entry lawful opened the_marker (Some bytes) may) in
      let some = some_of_some (markers_in (under the_marker bytes)) (or_parts (length (markers_in (under the_marker bytes)) == 0) (list_any (marker_offends (recorded shown_all)) (markers_in (under the_marker bytes))) (clean history entry lawful opened (under the_marker bytes) there)).0 in
      let limits = marker_limits (under the_marker bytes) some.0 (pair_made history entry lawful opened (under the_marker bytes) there) some.1 in
      let named = read-name the_marker (λ (m : Marker). marker_name (id_of_marker m).uuid) (marker_of bytes) some.0 some.1 in
      (some.0, (markers_under uuid (under the_marker bytes) some.0 some.1 (sym (same_marker_name uuid (id_of_marker some.0).uuid its (marker_uuid some.0 limits) named))).1)

  made_of : (name bytes : List ℕ) → MayBe name longer (Some bytes) → IsTrue (are_bytes bytes)
  made_of name bytes may = pair_made history entry lawful opened (under name bytes) (pair_of_shown history entry lawful opened name bytes (was_shown history entry lawful opened name (Some bytes) may))

  pub records_known : Readable the_record (records_at uuid) longer
  records_known = record {
    some = (record_seen.0, held_may history entry lawful opened the_record record_seen.0 record_seen.1);
    each = λ bytes may. (let read = record_reads bytes may in (made_of the_record bytes may, read.0, read.1));
  }

  pub markers_known : Readable the_marker (markers_at uuid) longer
  markers_known = record {
    some = (marker_seen.0, held_may history entry lawful opened the_marker marker_seen.0 marker_seen.1);
    each = λ bytes may. (let read = marker_reads bytes may in (made_of the_marker bytes may, read.0, read.1));
  }

  -- ---- what is committed and marked is what was shown

  -- what an entry proves, it shows
  proven_shown : (e : DoorEntry) → In e longer → (pair : Pair) → In pair (proven_pairs e) → In pair shown_all
  proven_shown e among pair its_pair =
      elim (in_append pair (stored_in e.act) (pairs_in e.act) its_pair) [
        | inl stored ↦ absurd (quiet_stored e.act (quiet history entry lawful opened e among) pair stored)
        | inr shown ↦ elim (in_snoc e history entry among) [
          | inl was ↦ flat_map_in (λ (x : DoorEntry). shown_pairs x) pair e history was shown
          | inr here ↦ absurd (subst (λ act. In pair (pairs_in act)) (ap (λ (x : DoorEntry). x.act) here ∙ opened) shown)
        ]
      ]

  committed_shown : (c : Commit) → In c (committed longer) → In c (recorded shown_all)
  committed_shown c is =
      let e = in_flat_map (λ (x : DoorEntry). committed_by x) c longer is in
      let pair = in_flat_map records_in c (proven_pairs e.0) e.2 in
      flat_map_in records_in c pair.0 shown_all (proven_shown e.0 e.1 pair.0 pair.1) pair.2

  shown_committed : (c : Commit) → In c (recorded shown_all) → In c (committed longer)
  shown_committed c is =
      let pair = in_flat_map records_in c shown_all is in
      let e = in_flat_map (λ (x : DoorEntry). shown_pairs x) pair.0 history pair.1 in
      flat_map_in (λ (x : DoorEntry). committed_by x) c e.0 longer (in_front e.0 history (entry ∷ []) e.1)
      (flat_map_in records_in c pair.0 (proven_pairs e.0) (in_back pair.0 (stored_in e.0.act) (pairs_in e.0.act) e.2) pair.2)

  -- a pair that was shown of the UUID is what its name holds
  recorded_may : (c : Commit) → In c (recorded shown_all) → c.id.uuid ≡ uuid → (bytes : List ℕ) × ShownIn the_record longer (Some bytes) × In c (records_at uuid (Some bytes))
  recorded_may c is of =
      let pair = in_flat_map records_in c shown_all is in
      let at = records_under uuid pair.0 c pair.2 of in
      (pair.0.bytes, subst (λ n. ShownIn n longer (Some pair.0.bytes)) at.0 (pair_shown history entry lawful opened pair.0 pair.1), at.1)

  possible_recorded : (c : Commit) → MayRecord uuid longer c → In c (recorded shown_all)
  possible_recorded c possible = from possible.outcome possible.may possible.among
    where
      from : (o : Option (List ℕ)) → MayBe the_record longer o → In c (records_at uuid o) → In c (recorded shown_all)
      from None may among = absurd among
      from (Some bytes) may among =
          flat_map_in records_in c (under the_record bytes) shown_all (pair_of_shown history entry lawful opened the_record bytes (was_shown history entry lawful opened the_record (Some bytes) may)) (record_read uuid bytes c among)

  appears_shown : (c : Commit) → Appears uuid longer c → In c (recorded shown_all) × (c.id.uuid ≡ uuid)
  appears_shown c (inl is) = (committed_shown c is.0, is.1)
  appears_shown c (inr possible) = (possible_recorded c possible, record_of_uuid uuid possible.outcome c possible.among)

  pub one : (c d : Commit) → Appears uuid longer c → Appears uuid longer d → c ≡ d
  one c d of_c of_d =
      let c_is = appears_shown c of_c in
      let d_is = appears_shown d of_d in
      let at_c = recorded_may c c_is.0 c_is.1 in
      let at_d = recorded_may d d_is.0 d_is.1 in
      let same = held_only history entry lawful opened the_record (Some at_c.0) (Some at_d.0) at_c.1 (held_may history entry lawful opened the_record (Some at_d.0) at_d.1) in
      one_record uuid (Some at_c.0) c d at_c.2 (subst (λ o. In d (records_at uuid o)) same at_d.2)

  pub never_absent : (name bytes : List ℕ) → ShownIn name longer (Some bytes) → NeverAbsent name longer
  never_absent name bytes shown may = none_some None bytes refl (held_only history entry lawful opened name (Some bytes) None shown may)

  pub there : (c : Commit) → CommittedOf uuid longer c → NeverAbsent the_record longer
  there c is = let at = recorded_may c (committed_shown c is.0) is.1 in never_absent the_record at.0 at.1

  -- ---- markers

  tried_shown : (m : Marker) → Tried longer m → In m (flat_map markers_in shown_all)
  tried_shown m (inl put) =
      let e = in_flat_map (λ (x : DoorEntry). markers_put x.act) m longer put in
      absurd (quiet_markers e.0.act (quiet history entry lawful opened e.0 e.1) m e.2)
  tried_shown m (inr shown) = subst (λ (h : List DoorEntry). In m (flat_map markers_in (flat_map (λ (e : DoorEntry). shown_pairs e) h))) (only_before history entry lawful opened) shown

  shown_tried : (m : Marker) → In m (flat_map markers_in shown_all) → Tried longer m
  shown_tried m shown = inr (subst (λ (h : List DoorEntry). In m (flat_map markers_in (flat_map (λ (e : DoorEntry). shown_pairs e) h))) (sym (only_before history entry lawful opened)) shown)

  proven_marker : (m : Marker) → In m (proven_markers longer) → In m (flat_map markers_in shown_all)
  proven_marker m is =
      let e = in_flat_map (λ (x : DoorEntry). flat_map markers_in (proven_pairs x)) m longer is in
      let pair = in_flat_map markers_in m (proven_pairs e.0) e.2 in
      flat_map_in markers_in m pair.0 shown_all (proven_shown e.0 e.1 pair.0 pair.1) pair.2

  marked_may : (m : Marker) → In m (flat_map markers_in shown_all) → (id_of_marker m).uuid ≡ uuid → (bytes : List ℕ) × ShownIn the_marker longer (Some bytes) × In (under the_marker bytes) shown_all × In m (markers_in (under the_marker bytes))
  marked_may m is of =
      let pair = in_flat_map markers_in m shown_all is in
      let at = markers_under uuid pair.0 m pair.2 of in
      let shown = subst (λ n. ShownIn n longer (Some pair.0.bytes)) at.0 (pair_shown history entry lawful opened pair.0 pair.1) in
      (pair.0.bytes, shown, pair_of_shown history entry lawful opened the_marker pair.0.bytes shown, marker_read uuid pair.0.bytes m at.1)

  pub marked_tried : (m : Marker) → MayMark uuid longer m ⊎ ProvenOf uuid longer m → Tried longer m
  marked_tried m (inl possible) = from possible.outcome possible.may possible.among
    where
      from : (o : Option (List ℕ)) → MayBe the_marker longer o → In m (markers_at uuid o) → Tried longer m
      from None may among = absurd among
      from (Some bytes) may among = shown_tried m
          (flat_map_in markers_in m (under the_marker bytes) shown_all (pair_of_shown history entry lawful opened the_marker bytes (was_shown history entry lawful opened the_marker (Some bytes) may)) (marker_read uuid bytes m among))
  marked_tried m (inr is) = shown_tried m (proven_marker m is.0)

  pub sure : (m : Marker) → ProvenOf uuid longer m → NeverAbsent the_marker longer
  sure m is = let at = marked_may m (proven_marker m is.0) is.1 in never_absent the_marker at.0 at.1

  -- a marker of the UUID that was tried doesn't offend
  inoffensive : (m : Marker) → Tried longer m → (id_of_marker m).uuid ≡ uuid → IsFalse (marker_offends (recorded shown_all) m) × NeverAbsent the_marker longer
  inoffensive m tried of =
      let at = marked_may m (tried_shown m tried) of in
      let quiet_ones = (or_parts (length (markers_in (under the_marker at.0)) == 0) (list_any (marker_offends (recorded shown_all)) (markers_in (under the_marker at.0))) (clean history entry lawful opened (under the_marker at.0) at.2)).1 in (
        false_from_ne_true (marker_offends (recorded shown_all) m) (λ bad. true≢false (sym (any_from (marker_offends (recorded shown_all)) m (markers_in (under the_marker at.0)) at.3 bad) ∙ quiet_ones)),
        never_absent the_marker at.0 at.1,
      )

  -- a UUID of which no record was shown, and whose marker was, was retired before
  record_absent : ((c : Commit) → In c (recorded shown_all) → c.id.uuid ≡ uuid → ⊥) → OnlyAbsent the_record longer
  record_absent none None may = refl
  record_absent none (Some bytes) may =
      let read = record_reads bytes may in
      absurd (none read.0 (possible_recorded read.0 (record { outcome = Some bytes; may = may; among = read.1 })) (record_of_uuid uuid (Some bytes) read.0 read.1))

  retired : ((c : Commit) → In c (recorded shown_all) → c.id.uuid ≡ uuid → ⊥) → NeverAbsent the_marker longer → RetiredBefore uuid longer
  retired none marks = record { uncommitted = λ c is. none c (committed_shown c is.0) is.1; record_gone = record_absent none; marked_or_forgotten = inl marks }

  -- commits that are committed supersede what those that were shown do
  superseded : (c : Commit) → IsTrue (is_superseded c (recorded shown_all)) → Superseded c (committed longer)
  superseded c is = all_from (λ key. list_any (λ (d : Commit). wrote key d && id_lt c.id d.id) (committed longer)) c.keys (λ key among.
      let found = any_found (λ (d : Commit). wrote key d && id_lt c.id d.id) (recorded shown_all) (all_at (λ k. list_any (λ (d : Commit). wrote k d && id_lt c.id d.id) (recorded shown_all)) key c.keys among is) in
      any_from (λ (d : Commit). wrote key d && id_lt c.id d.id) found.0 (committed longer) (shown_committed found.0 found.1) found.2)

  same_uuid : (c d : Commit) → c.id.uuid ≡ uuid → d.id.uuid ≡ uuid → IsTrue (has_uuid c.id.uuid d)
  same_uuid c d of_c of_d = subst (λ u. IsTrue (bytes_eq c.id.uuid u)) (of_c ∙ sym of_d) (bytes_eq-refl c.id.uuid)

  pub full : (c : Commit) → Tried longer (Full c) → c.id.uuid ≡ uuid → Superseded c (committed longer) × (In c (committed longer) ⊎ RetiredBefore uuid longer)
  full c tried of =
      let clear = inoffensive (Full c) tried of in
      let parts = or_parts (list_any (λ (d : Commit). has_uuid c.id.uuid d && not (same_commit c d)) (recorded shown_all)) (not (is_superseded c (recorded shown_all))) clear.0 in
      (superseded c (shown_so (is_superseded c (recorded shown_all)) parts.1), by_test parts.0 clear.1 (list_any (has_uuid c.id.uuid) (recorded shown_all)) refl)
    where
      shown_so : (t : Bool) → IsFalse (not t) → IsTrue t
      shown_so true is = refl
      shown_so false is = absurd (true≢false is)

      by_test : IsFalse (list_any (λ (d : Commit). has_uuid c.id.uuid d && not (same_commit c d)) (recorded shown_all)) → NeverAbsent the_marker longer → (t : Bool) → list_any (has_uuid c.id.uuid) (recorded shown_all) ≡ t → In c (committed longer) ⊎ RetiredBefore uuid longer
      by_test none marks true is =
          let found = any_found (has_uuid c.id.uuid) (recorded shown_all) is in
          inl (by_same found.0 found.1 found.2 (same_commit c found.0) refl)
        where
          by_same : (d : Commit) → In d (recorded shown_all) → IsTrue (has_uuid c.id.uuid d) → (s : Bool) → same_commit c d ≡ s → In c (committed longer)
          by_same d among has true same = subst (λ e. In e (committed longer)) (sym (same_commits c d same)) (shown_committed d among)
          by_same d among has false other =
              absurd (true≢false (sym (any_from (λ (e : Commit). has_uuid c.id.uuid e && not (same_commit c e)) d (recorded shown_all) among (and_from _ _ has (ap not other))) ∙ none))
      by_test none marks false is = inr (retired (λ d among of_d. true≢false (sym (any_from (has_uuid c.id.uuid) d (recorded shown_all) among (same_uuid c d of of_d)) ∙ is)) marks)

  pub short : (id : TxnId) → Tried longer (Done id) → id.uuid ≡ uuid → OnlyAbsent the_record longer × (CommittedId id longer ⊎ RetiredBefore uuid longer)
  short id tried of =
      let clear = inoffensive (Done id) tried of in
      let none : (d : Commit) → In d (recorded shown_all) → d.id.uuid ≡ uuid → ⊥ =
      λ d among of_d. true≢false (sym (any_from (has_uuid id.uuid) d (recorded shown_all) among (subst (λ u. IsTrue (bytes_eq id.uuid u)) (of ∙ sym of_d) (bytes_eq-refl id.uuid))) ∙ clear.0) in
      (record_absent none, inr (retired none clear.1))

  -- ---- the other fields

  pub unforgotten : IsTrue (forgotten uuid longer) → ⊥
  unforgotten is =
      let e = any_found (λ (x : DoorEntry). tries_delete the_marker x.act) longer is in
      true≢false (sym e.2 ∙ quiet_tries the_marker e.0.act (quiet history entry lawful opened e.0 e.1))

  pub nobody : claimant uuid longer ≡ None
  nobody = claimed_by_none uuid None longer (λ e among. each_entry history entry lawful opened (λ act. claimant_after uuid None act ≡ None) refl (λ x was. sight_claims uuid None x.act (sights_before history entry lawful opened x was)) e among)

  pub unclaimed : (who : Incarnation) → IsTrue (is_held_by who (claimant uuid longer)) → ⊥
  unclaimed who held_it = false≢true (subst (λ h. IsTrue (is_held_by who h)) nobody held_it)

  pub whole : (c : Commit) → MayRecord uuid longer c → (key : List ℕ) → In key c.keys → Stored uuid (version_name key c.id) longer
  whole c possible key among =
      let pair = any_found (is_version_at key c.id) shown_all (version_shown history entry lawful opened c (possible_recorded c possible) key among) in
      let v = any_found (λ (w : Version). bytes_eq key w.key && same_id c.id w.id) (versions_in pair.0) pair.2 in
      let same = and_parts (bytes_eq key v.0.key) (same_id c.id v.0.id) v.2 in
      let id_is = same_ids c.id v.0.id same.1 in
      let named : pair.0.name ≡ version_name key c.id =
      read-name pair.0.name (λ (w : Version). version_name w.key w.id) (version_of pair.0.bytes) v.0 v.1 ∙ (ap (λ k. version_name k v.0.id) (sym (same_bytes key v.0.key same.0)) ∙ ap (λ i. version_name key i) (sym id_is)) in
      record {
        bytes = pair.0.bytes;
        version = v.0;
        only = held history entry lawful opened (version_name key c.id) (Some pair.0.bytes) (subst (λ n. ShownIn n longer (Some pair.0.bytes)) named (pair_shown history entry lawful opened pair.0 pair.1));
        made = pair_made history entry lawful opened pair.0 pair.1;
        reads = subst (λ n. In v.0 (versions_in (under n pair.0.bytes))) named v.1;
        of = ap (λ (i : TxnId). i.uuid) (sym id_is) ∙ record_of_uuid uuid possible.outcome c possible.among;
      }

  -- where the record was shown absent, it is surely so
  gone_now : (c : Commit) → c.id.uuid ≡ uuid → (e : DoorEntry) → In e longer → IsTrue (shows_gone c e) → OnlyAbsent the_record longer
  gone_now c of e among gone = elim (gone_effect the_record e (subst (λ u. IsTrue (deletes (record_name u) e.act || shows_absent (record_name u) e)) of gone)) [
    | inl shows ↦ (λ outcome may. held_only history entry lawful opened the_record None outcome (record { entry = e; among = among; shows = shows }) may)
    | inr writes ↦ absurd (nothing_new uuid longer e (quiet history entry lawful opened e among) the_record None (inl writes))
  ]

  followed_by : (c : Commit) (test : DoorEntry → Bool) (entries : List DoorEntry) → IsTrue (followed (λ (e : DoorEntry). is_among c (marked_by e)) (list_any test) entries) → (e : DoorEntry) × In e entries × IsTrue (test e)
  followed_by c test [] is = absurd (false≢true is)
  followed_by c test (e ∷ entries) is = elim (or_cases (is_among c (marked_by e) && list_any test entries) (followed (λ (x : DoorEntry). is_among c (marked_by x)) (list_any test) entries) is) [
    | inl here ↦ (let found = any_found test entries (and_parts (is_among c (marked_by e)) (list_any test entries) here).1 in (found.0, inr found.1, found.2))
    | inr later ↦ (let found = followed_by c test entries later in (found.0, inr found.1, found.2))
  ]

  pub gone : (id : TxnId) → IsTrue (knows_record_gone id longer) ⊎ IsTrue (began_to_delete id longer) → id.uuid ≡ uuid → OnlyAbsent the_record longer
  gone id (inl knows) of =
      let found = any_found (λ (c : Commit). same_id id c.id && marked_then (list_any (shows_gone c)) c longer) (marked longer) knows in
      let parts = and_parts (same_id id found.0.id) (marked_then (list_any (shows_gone found.0)) found.0 longer) found.2 in
      let e = followed_by found.0 (shows_gone found.0) longer parts.1 in
      gone_now found.0 (ap (λ (i : TxnId). i.uuid) (sym (same_ids id found.0.id parts.0)) ∙ of) e.0 e.1 e.2
  gone id (inr began) of =
      let found = any_found (λ (c : Commit). same_id id c.id && marked_then (list_any (deletes_of c)) c longer) (marked longer) began in
      let parts = and_parts (same_id id found.0.id) (marked_then (list_any (deletes_of found.0)) found.0 longer) found.2 in
      let e = followed_by found.0 (deletes_of found.0) longer parts.1 in
      let key = any_found (λ k. deletes (version_name k found.0.id) e.0.act) found.0.keys e.2 in
      absurd (true≢false (sym key.2 ∙ quiet_deletes (version_name key.0 found.0.id) e.0.act (quiet history entry lawful opened e.0 e.1)))

  pub kept_base : Kept uuid longer
  kept_base = record {
    records_known = records_known;
    markers_known = markers_known;
    one = one;
    there = λ c is unmarked. there c is;
    marked_tried = marked_tried;
    full = full;
    short = short;
    sure = λ m is un. sure m is;
    gone = gone;
    whole = whole;
    claimed = λ who held_it. absurd (unclaimed who held_it);
    holding = λ who held_it up. absurd (unclaimed who held_it);
    forgotten_gone = λ is. absurd (unforgotten is);
    looking = λ id of held_it. absurd (unclaimed the_office held_it);
    undeleted = λ c is nothing. there c is;
  }
