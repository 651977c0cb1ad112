-- Contents behind the opening are sound, have each unmarked commit, and a record or a marker of each used UUID.
use Rattle.std.proofs.Common.{◌≡◌, ℕ, Bool, true, false, ◌&&◌, ◌||◌, ◌==◌, not, List, [], ◌∷◌, ◌++◌, ◌+◌, length, suc, arith, refl, sym, ap, subst, ◌∙◌, ◌⊎◌, inl, inr, append-nil, append_assoc}
use Rattle.std.specs.Prelude.{Contains, IsTrue, IsFalse, filter, if◌then◌else◌, map, nat_eq}
use Rattle.std.specs.List.{before_first, flat_map, list_all, list_any, starts_with}
use Rattle.std.specs.Str.{bytes_eq}
use Rattle.std.proofs.lemmas.Bool.{and_from, and_parts, cases_Bool, false≢true, not-true, or_cases, or_left, or_right, true≢false}
use Rattle.aft_id.specs.TxnId.{IsUuid, id_lt}
use Rattle.aft_keeper.specs.declared.keeper.Pair.{Pair}
use Rattle.aft_keeper.specs.Contents.{IsContents}
use Rattle.aft_records.proofs.CommitOrder.{id_lt-irrefl, id_lt-le}
use Rattle.aft_records.specs.declared.stored.Commit.{Commit}
use Rattle.aft_records.specs.declared.stored.Marker.{Marker}
use Rattle.aft_records.specs.declared.stored.Marker.TheVariants.{Done, Full}
use Rattle.aft_records.specs.declared.stored.Version.{Version}
use Rattle.aft_records.specs.Commits.{has_uuid, same_commit}
use Rattle.aft_records.specs.Reading.{commit_of, marker_of, version_of}
use Rattle.aft_records.specs.Superseded.{Superseded, is_superseded, wrote}
use Rattle.aft_model.specs.declared.door.DoorEntry.{DoorEntry}
use Rattle.aft_model.specs.Bytes.{acts_bytes, are_bytes}
use Rattle.aft_model.specs.Claims.{forgotten}
use Rattle.aft_model.specs.Committed.{committed, proven_pairs}
use Rattle.aft_model.specs.Contents.{GoesAlong, may_be_held}
use Rattle.aft_model.specs.DoorKnowledge.{is_open, knows_marked, opens}
use Rattle.aft_model.specs.Evidence.{shown_pairs, stored_pairs}
use Rattle.aft_model.specs.History.{each_prefix}
use Rattle.aft_model.specs.Office.{before_open}
use Rattle.aft_model.specs.Readings.{has_reading, id_of_marker, is_record_of, is_version_at, marker_name, markers_in, record_name, records_in, version_name, versions_in}
use Rattle.aft_model.specs.Sound.{Sound, marker_offends, markers_prefix, missing_versions, offenders, pair_offends, recorded, records_prefix}
use Rattle.aft_model.proofs.Histories.{In, all_at, any_found, any_from, in_append, in_back, in_flat_map}
use Rattle.aft_model.proofs.Knowledge.{greatest_one}
use Rattle.aft_model.proofs.Lists.{all_from, in_filter, in_map}
use Rattle.aft_model.proofs.Sights.{bytes_eq-refl, read-name, same_bytes}
use Rattle.aft_lines.specs.KeepsIds.{KeepsIds, all_keep_ids, has_trace_of, keeps_ids, marked_at_first, used}
use Rattle.law_kept.specs.Kept.{Kept, Lawful}
use Rattle.law_kept.specs.Outcomes.{MayBe, MayRecord, NeverAbsent, OnlyAbsent, ProvenOf, records_at}
use Rattle.law_kept.specs.Tried.{Tried}
use Rattle.law_kept.proofs.Always.{lawful_begins}
use Rattle.law_kept.proofs.Fates.{markers_by}
use Rattle.law_kept.proofs.Gives.{closed}
use Rattle.law_kept.proofs.Gone.{flat_map_in}
use Rattle.law_kept.proofs.PutMarker.{same_commit_itself}
use Rattle.law_kept.proofs.Written.{empty_if, marker_limits, marker_uuid}
use Rattle.law_kept.proofs.Steps.{before_first-cons}
use Rattle.law_opened.proofs.Acts.{none_of_none, shown_bytes}
use Rattle.law_whole.proofs.Readable.{legible}
use Rattle.law_whole.proofs.Throughout.{is_committed, its_uuid}
use Rattle.law_whole.proofs.Values.{untried_unmarked}
use Rattle.law_contents.proofs.Held.{may_stand, stands}
use Rattle.law_contents.proofs.Ids.{kept_of, marker_held, marker_there, record_held, record_there, versions_there}

-- ---- kinds of pairs

some_in : {A : Type 0} (xs : List A) → ((x : A) × In x xs) ⊎ (length xs ≡ 0)
some_in [] = inr refl
some_in (x ∷ xs) = inl (x, inl refl)

-- what has a reading is a record, a marker or a version
kind_of : (pair : Pair) → IsTrue (has_reading pair) → ((c : Commit) × In c (records_in pair)) ⊎ (((m : Marker) × In m (markers_in pair)) ⊎ ((v : Version) × In v (versions_in pair)))
kind_of pair reads = elim (some_in (records_in pair)) [
  | inl c ↦ inl c
  | inr no_record ↦ elim (some_in (markers_in pair)) [
    | inl m ↦ inr (inl m)
    | inr no_marker ↦ elim (some_in (versions_in pair)) [
      | inl v ↦ inr (inr v)
      | inr no_version ↦ absurd (false≢true (subst (λ n. IsTrue (not (0 + 0 + n == 0))) no_version (subst (λ n. IsTrue (not (0 + n + length (versions_in pair) == 0))) no_marker (subst (λ n. IsTrue (not (n + length (markers_in pair) + length (versions_in pair) == 0))) no_record reads))))
    ]
  ]
]

-- what comes before the first of a list is of the list
before_among : {A : Type 0} (test : A → Bool) (x : A) (xs : List A) → In x (before_first test xs) → In x xs
before_among test x [] among = among
before_among {A} test x (y ∷ ys) among = cases (before_among test x ys) (test y) (subst (In x) (before_first-cons test y ys) among)
  where
    cases : (In x (before_first test ys) → In x ys) → (t : Bool) → In x (if t then [] else y ∷ before_first test ys) → In x (y ∷ ys)
    cases rest true nowhere = absurd nowhere
    cases rest false (inl here) = inl here
    cases rest false (inr later) = inr (rest later)

-- an element of a list stands at a place of it
contains : {A : Type 0} (x : A) (xs : List A) → In x xs → Contains xs x
contains x [] among = absurd among
contains x (y ∷ ys) (inl here) = (0, omega arith, sym here)
contains x (y ∷ ys) (inr later) = let found = contains x ys later in let within = found.1 in (suc found.0, omega arith, found.2)

module _ (at_first now : List Pair) (history : List DoorEntry) (contents : IsContents at_first) (along : GoesAlong at_first history now) (lawful : Lawful history) (opened : IsTrue (is_open history)) where
  -- ---- commits

  pub unmarked_record : (c : Commit) → In c (committed history) → IsFalse (knows_marked c.id.uuid history) → In c (recorded now) × IsTrue (list_any (is_record_of c) now) × MayRecord c.id.uuid history c
  unmarked_record c among unmarked =
      let its = its_uuid history lawful c among in
      let kept : Kept c.id.uuid history = kept_of at_first now history contents along lawful opened c.id.uuid its in
      let held = record_held at_first now history contents along lawful opened c.id.uuid its (kept.there c (among, refl) unmarked) in
      let same : held.commit ≡ c = kept.one held.commit c (inr held.may) (inl (among, refl)) in (
        subst (λ (d : Commit). In d (recorded now)) same held.among,
        subst (λ (d : Commit). IsTrue (list_any (is_record_of d) now)) same held.reads,
        subst (λ (d : Commit). MayRecord c.id.uuid history d) same held.may,
      )

  pub unmarked_versions : (c : Commit) → In c (committed history) → IsFalse (knows_marked c.id.uuid history) → IsTrue (list_all (λ key. list_any (is_version_at key c.id) now) c.keys)
  unmarked_versions c among unmarked =
      all_from (λ key. list_any (is_version_at key c.id) now) c.keys (λ key in_it. versions_there at_first now history contents along lawful opened c (its_uuid history lawful c among) (unmarked_record c among unmarked).2 key in_it)

  -- a commit that isn't superseded was never tried
  newest_untried : (c : Commit) → In c (committed history) → IsFalse (is_superseded c (committed history)) → Tried history (Full c) → ⊥
  newest_untried c among newest tried =
      let kept : Kept c.id.uuid history = kept_of at_first now history contents along lawful opened c.id.uuid (its_uuid history lawful c among) in
      true≢false (sym (kept.full c tried refl).0 ∙ newest)

  pub newest_recorded : (c : Commit) → In c (committed history) → IsFalse (is_superseded c (committed history)) → In c (recorded now)
  newest_recorded c among newest =
      (unmarked_record c among (untried_unmarked c history lawful opened (is_committed history lawful c among) (newest_untried c among newest))).0

  -- what the committed commits supersede, the recorded ones do
  still_superseded : (c : Commit) → Superseded c (committed history) → Superseded c (recorded now)
  still_superseded c old = all_from (λ key. list_any (λ d. wrote key d && id_lt c.id d.id) (recorded now)) c.keys each_key
    where
      each_key : (key : List ℕ) → In key c.keys → IsTrue (list_any (λ d. wrote key d && id_lt c.id d.id) (recorded now))
      each_key key among =
          let found = any_found (λ (d : Commit). wrote key d && id_lt c.id d.id) (committed history) (all_at (λ k. list_any (λ (d : Commit). wrote k d && id_lt c.id d.id) (committed history)) key c.keys among old) in
          let both = and_parts (wrote key found.0) (id_lt c.id found.0.id) found.2 in
          let top = greatest_one key found.0.id (committed history) (found.0, found.1, both.0, id_lt-irrefl found.0.id) in
          any_from (λ (d : Commit). wrote key d && id_lt c.id d.id) top.0 (recorded now) (newest_recorded top.0 top.1 top.4) (and_from _ _ top.2 (id_lt-le c.id found.0.id top.0.id both.1 top.3))

  -- ---- nothing offends

  -- where the record of a UUID is surely gone, none stands there
  none_of : (uuid : List ℕ) → OnlyAbsent (record_name uuid) history → (d : Commit) → In d (recorded now) → IsTrue (has_uuid uuid d) → ⊥
  none_of uuid gone d among of =
      let there = record_there at_first now history contents along lawful opened d among in
      let same : uuid ≡ d.id.uuid = same_bytes uuid d.id.uuid of in
      subst (λ o. In d (records_at d.id.uuid o)) (subst (λ u. OnlyAbsent (record_name u) history) same gone there.may.outcome there.may.may) there.may.among

  no_other : (c d : Commit) → In c (committed history) → In d (recorded now) → IsTrue (has_uuid c.id.uuid d) → IsTrue (not (same_commit c d)) → ⊥
  no_other c d committed_it among of apart =
      let there = record_there at_first now history contents along lawful opened d among in
      let same_uuid : d.id.uuid ≡ c.id.uuid = sym (same_bytes c.id.uuid d.id.uuid of) in
      let kept = kept_of at_first now history contents along lawful opened d.id.uuid there.its in
      let same : c ≡ d = kept.one c d (inl (committed_it, sym same_uuid)) (inr there.may) in
      true≢false (sym (subst (λ (e : Commit). IsTrue (same_commit c e)) same (same_commit_itself c)) ∙ not-true (same_commit c d) apart)

  marker_fits : (pair : Pair) (m : Marker) → In pair now → In m (markers_in pair) → IsTrue (marker_offends (recorded now) m) → ⊥
  marker_fits pair (Full c) among reads offends =
      let there = marker_there at_first now history contents along lawful opened pair (Full c) among reads in
      let kept : Kept c.id.uuid history = kept_of at_first now history contents along lawful opened c.id.uuid there.its in
      let full = kept.full c (kept.marked_tried (Full c) (inl there.may)) refl in
      elim (or_cases (list_any (λ d. has_uuid c.id.uuid d && not (same_commit c d)) (recorded now)) (not (is_superseded c (recorded now))) offends) [
        | inl other ↦ (let d = any_found (λ (e : Commit). has_uuid c.id.uuid e && not (same_commit c e)) (recorded now) other in
            let parts = and_parts (has_uuid c.id.uuid d.0) (not (same_commit c d.0)) d.2 in
            elim full.1 [
              | inl committed_it ↦ no_other c d.0 committed_it d.1 parts.0 parts.1
              | inr retired ↦ none_of c.id.uuid retired.record_gone d.0 d.1 parts.0
            ])
        | inr not_old ↦ true≢false (sym (still_superseded c full.0) ∙ not-true (is_superseded c (recorded now)) not_old)
      ]
  marker_fits pair (Done id) among reads offends =
      let there = marker_there at_first now history contents along lawful opened pair (Done id) among reads in
      let kept : Kept id.uuid history = kept_of at_first now history contents along lawful opened id.uuid there.its in
      let short = kept.short id (kept.marked_tried (Done id) (inl there.may)) refl in
      let d = any_found (has_uuid id.uuid) (recorded now) offends in
      none_of id.uuid short.0 d.0 d.1 d.2

  by_name : (pair : Pair) → In pair now → IsTrue (starts_with nat_eq pair.name records_prefix || starts_with nat_eq pair.name markers_prefix) → IsTrue (has_reading pair)
  by_name pair among named =
      let readable = legible pair.name named history opened lawful in
      (readable.1 pair.bytes (subst (MayBe pair.name history) (stands at_first now history contents along pair among) (may_stand at_first now history contents along pair.name readable.0))).1

  -- under the records stand records
  is_record : (pair : Pair) → In pair now → starts_with nat_eq pair.name records_prefix ≡ true → IsTrue (length (records_in pair) == 0) → ⊥
  is_record pair among begins none = elim (kind_of pair (by_name pair among (or_left _ _ begins))) [
    | inl c ↦ none_of_none (records_in pair) none c.0 c.1
    | inr other ↦ elim other [
      | inl m ↦ true≢false (sym (subst (λ n. starts_with nat_eq n records_prefix ≡ true) (read-name pair.name (λ (n : Marker). marker_name (id_of_marker n).uuid) (marker_of pair.bytes) m.0 m.1) begins))
      | inr v ↦ true≢false (sym (subst (λ n. starts_with nat_eq n records_prefix ≡ true) (read-name pair.name (λ (w : Version). version_name w.key w.id) (version_of pair.bytes) v.0 v.1) begins))
    ]
  ]

  -- and under the markers, markers
  is_marker : (pair : Pair) → In pair now → starts_with nat_eq pair.name markers_prefix ≡ true → IsTrue (length (markers_in pair) == 0) → ⊥
  is_marker pair among begins none = elim (kind_of pair (by_name pair among (or_right (starts_with nat_eq pair.name records_prefix) _ begins))) [
    | inl c ↦ true≢false (sym (subst (λ n. starts_with nat_eq n markers_prefix ≡ true) (read-name pair.name (λ (d : Commit). record_name d.id.uuid) (commit_of pair.bytes) c.0 c.1) begins))
    | inr other ↦ elim other [
      | inl m ↦ none_of_none (markers_in pair) none m.0 m.1
      | inr v ↦ true≢false (sym (subst (λ n. starts_with nat_eq n markers_prefix ≡ true) (read-name pair.name (λ (w : Version). version_name w.key w.id) (version_of pair.bytes) v.0 v.1) begins))
    ]
  ]

  fits : (pair : Pair) → In pair now → IsTrue (pair_offends (recorded now) pair) → ⊥
  fits pair among offends = by_records (starts_with nat_eq pair.name records_prefix) refl offends
    where
      by_markers : (t : Bool) → starts_with nat_eq pair.name markers_prefix ≡ t → IsTrue (if t then length (markers_in pair) == 0 || list_any (marker_offends (recorded now)) (markers_in pair) else false) → ⊥
      by_markers true begins bad = elim (or_cases (length (markers_in pair) == 0) (list_any (marker_offends (recorded now)) (markers_in pair)) bad) [
        | inl none ↦ is_marker pair among begins none
        | inr some ↦ (let m = any_found (marker_offends (recorded now)) (markers_in pair) some in marker_fits pair m.0 among m.1 m.2)
      ]
      by_markers false begins bad = false≢true bad

      by_records : (t : Bool) → starts_with nat_eq pair.name records_prefix ≡ t → IsTrue (if t then length (records_in pair) == 0 else if starts_with nat_eq pair.name markers_prefix then length (markers_in pair) == 0 || list_any (marker_offends (recorded now)) (markers_in pair) else false) → ⊥
      by_records true begins bad = is_record pair among begins bad
      by_records false begins bad = by_markers (starts_with nat_eq pair.name markers_prefix) refl bad

  misses_none : (c : Commit) → In c (recorded now) → (name : List ℕ) → In name (missing_versions now c) → ⊥
  misses_none c among name missing =
      let there = record_there at_first now history contents along lawful opened c among in
      let key = in_map (λ k. version_name k c.id) name (filter (λ k. not (list_any (is_version_at k c.id) now)) c.keys) missing in
      let absent = in_filter (λ k. not (list_any (is_version_at k c.id) now)) key.0 c.keys key.1 in
      true≢false (sym (versions_there at_first now history contents along lawful opened c there.its there.may key.0 absent.0) ∙ not-true (list_any (is_version_at key.0 c.id) now) absent.1)

  none_offends : (name : List ℕ) → In name (offenders now) → ⊥
  none_offends name among =
      elim (in_append name (map (λ (p : Pair). p.name) (filter (pair_offends (recorded now)) now)) (flat_map (missing_versions now) (recorded now)) among) [
        | inl pairs ↦ (let pair = in_map (λ (p : Pair). p.name) name (filter (pair_offends (recorded now)) now) pairs in
            let bad = in_filter (pair_offends (recorded now)) pair.0 now pair.1 in fits pair.0 bad.0 bad.1)
        | inr versions ↦ (let c = in_flat_map (missing_versions now) name (recorded now) versions in misses_none c.0 c.1 name c.2)
      ]

  pub sound_now : Sound now
  sound_now = ap (λ (names : List (List ℕ)). length names == 0) (empty_if (offenders now) none_offends)

  -- ---- used UUIDs

  -- a UUID whose record or whose marker can't be absent leaves a trace
  leaves_trace : (uuid : List ℕ) → IsUuid uuid → NeverAbsent (record_name uuid) history ⊎ NeverAbsent (marker_name uuid) history → IsTrue (has_trace_of uuid now)
  leaves_trace uuid its (inl present) =
      let held = record_held at_first now history contents along lawful opened uuid its present in
      or_left _ _ (any_from (has_uuid uuid) held.commit (recorded now) held.among (subst (λ u. IsTrue (bytes_eq uuid u)) (sym held.of) (bytes_eq-refl uuid)))
  leaves_trace uuid its (inr present) = or_right _ _ (marker_held at_first now history contents along lawful opened uuid its present)

  committed_trace : (c : Commit) → In c (committed history) → IsFalse (forgotten c.id.uuid history) → IsTrue (has_trace_of c.id.uuid now)
  committed_trace c among un =
      let its = its_uuid history lawful c among in
      leaves_trace c.id.uuid its (closed c history (kept_of at_first now history contents along lawful opened c.id.uuid its) (is_committed history lawful c among) un)

  -- a marker that the opening was shown
  marked_trace : (m : Marker) → In m (flat_map markers_in (flat_map shown_pairs (before_open history))) → IsFalse (forgotten (id_of_marker m).uuid history) → IsTrue (has_trace_of (id_of_marker m).uuid now)
  marked_trace m among un =
      let uuid : List ℕ = (id_of_marker m).uuid in
      let pair = in_flat_map markers_in m (flat_map shown_pairs (before_open history)) among in
      let e = in_flat_map (λ (x : DoorEntry). shown_pairs x) pair.0 (before_open history) pair.1 in
      let within = before_among (λ (x : DoorEntry). opens x.act) e.0 history e.1 in
      let made : IsTrue (are_bytes pair.0.bytes) = elim (shown_bytes e.0.act (all_at (λ (x : DoorEntry). acts_bytes x.act) e.0 history within lawful.made) pair.0 e.2) [
        | inl both ↦ (and_parts (are_bytes pair.0.name) (are_bytes pair.0.bytes) both).1
        | inr is ↦ is
      ] in
      let its : IsUuid uuid = marker_uuid m (marker_limits pair.0 m made pair.2) in
      let proven : ProvenOf uuid history m = (
        flat_map_in (λ (x : DoorEntry). markers_by x) m e.0 history within (flat_map_in markers_in m pair.0 (proven_pairs e.0) (in_back pair.0 (stored_pairs e.0) (shown_pairs e.0) e.2) pair.2),
        refl,
      ) in
      leaves_trace uuid its (inr ((kept_of at_first now history contents along lawful opened uuid its).sure m proven un))

  used_trace : (uuid : List ℕ) → In uuid (used history) → IsFalse (forgotten uuid history) → IsTrue (has_trace_of uuid now)
  used_trace uuid among un = elim (in_append uuid (map (λ (c : Commit). c.id.uuid) (committed history)) (marked_at_first history) among) [
    | inl commits ↦ (let c = in_map (λ (d : Commit). d.id.uuid) uuid (committed history) commits in
        subst (λ u. IsTrue (has_trace_of u now)) (sym c.2) (committed_trace c.0 c.1 (subst (λ u. IsFalse (forgotten u history)) c.2 un)))
    | inr marks ↦ (let m = in_map (λ (n : Marker). (id_of_marker n).uuid) uuid (flat_map markers_in (flat_map shown_pairs (before_open history))) marks in
        subst (λ u. IsTrue (has_trace_of u now)) (sym m.2) (marked_trace m.0 m.1 (subst (λ u. IsFalse (forgotten u history)) m.2 un)))
  ]

  pub keeps_used : IsTrue (list_all (λ uuid. forgotten uuid history || has_trace_of uuid now) (used history))
  keeps_used = all_from (λ uuid. forgotten uuid history || has_trace_of uuid now) (used history) (λ uuid among. elim (cases_Bool (forgotten uuid history)) [
    | inl gone ↦ or_left _ _ gone
    | inr un ↦ or_right _ _ (used_trace uuid among un)
  ])

-- ---- behind each entry

prefix_from : {A : Type 0} (test : List A → Bool) (before xs : List A) → ((front back : List A) → xs ≡ front ++ back → IsTrue (test (before ++ front))) → IsTrue (each_prefix test before xs)
prefix_from test before [] each = subst (λ h. IsTrue (test h)) (append-nil before) (each [] [] refl)
prefix_from {A} test before (x ∷ xs) each =
    and_from _ _ (subst (λ h. IsTrue (test h)) (append-nil before) (each [] (x ∷ xs) refl))
    (prefix_from test (before ++ x ∷ []) xs (λ front back is. subst (λ h. IsTrue (test h)) (sym (append_assoc before (x ∷ []) front)) (each (x ∷ front) back (ap (λ (l : List A). x ∷ l) is))))

pub keeps_ids_along : (at_first : List Pair) (history : List DoorEntry) → IsContents at_first → Lawful history → KeepsIds at_first history
keeps_ids_along at_first history contents lawful = prefix_from (all_keep_ids at_first) [] history each
  where
    each : (front back : List DoorEntry) → history ≡ front ++ back → IsTrue (all_keep_ids at_first front)
    each front back is = all_from (λ now. keeps_ids now front) (may_be_held at_first front) (λ now among. elim (cases_Bool (is_open front)) [
      | inl opened ↦ or_right _ _ (keeps_used at_first now front contents (contains now (may_be_held at_first front) among) (lawful_begins front back (subst Lawful is lawful)) opened)
      | inr shut ↦ or_left _ _ (ap not shut)
    ])
