-- A UUID is kept behind each delete.
use Rattle.std.proofs.Common.{◌≡◌, ℕ, Bool, true, false, ◌&&◌, ◌||◌, not, List, [], ◌∷◌, ◌++◌, refl, sym, ap, subst, ◌∙◌, inl, inr, eqb, append-nil}
use Rattle.std.specs.Prelude.{IsTrue, IsFalse, Option, Some, None, if◌then◌else◌, nat_eq}
use Rattle.std.specs.List.{list_any, starts_with}
use Rattle.std.specs.Str.{bytes_eq}
use Rattle.std.proofs.lemmas.Bool.{and_parts, cases_Bool, or_cases, or_right, not-true, false≢true, true≢false, false_from_ne_true}
use Rattle.aft_id.specs.declared.txn_id.TxnId.{TxnId}
use Rattle.aft_id.specs.TxnId.{IsUuid, same_id}
use Rattle.aft_keeper.specs.declared.keeper.KeeperAnswer.{KeeperAnswer}
use Rattle.aft_keeper.specs.declared.keeper.KeeperAnswer.TheVariants.{Found}
use Rattle.aft_keeper.specs.declared.keeper.KeeperCall.TheVariants.{Delete, Get}
use Rattle.aft_keeper.specs.declared.keeper.Pair.{Pair}
use Rattle.aft_records.specs.declared.name.Name.{Name}
use Rattle.aft_records.specs.declared.name.Name.TheVariants.{CommitOf, RetiredOf, VersionOf}
use Rattle.aft_records.specs.declared.stored.Commit.{Commit}
use Rattle.aft_records.specs.declared.stored.Marker.{Marker}
use Rattle.aft_records.specs.declared.stored.Marker.TheVariants.{Done, Full}
use Rattle.aft_records.specs.declared.stored.Version.{Version}
use Rattle.aft_records.specs.Commits.{has_id, has_uuid, same_commit}
use Rattle.aft_records.specs.NameReading.{name_of}
use Rattle.aft_records.specs.Reading.{version_of}
use Rattle.aft_records.specs.Stored.{IsCommit, IsName}
use Rattle.aft_model.specs.declared.door.DoorAct.{DoorAct}
use Rattle.aft_model.specs.declared.door.DoorAct.TheVariants.{Call}
use Rattle.aft_model.specs.declared.door.DoorEntry.{DoorEntry}
use Rattle.aft_model.specs.Claims.{claimant, claimant_after, holds, is_held_by, tries_delete}
use Rattle.aft_model.specs.Committed.{done_by, marked, proven_pairs, shorts_in}
use Rattle.aft_model.specs.DoorKnowledge.{claims, deletes, finds, is_short_of, knows_marked, knows_record_gone, knows_short, marked_then, shows_gone}
use Rattle.aft_model.specs.DoorRules.{may_delete, may_delete_orphan}
use Rattle.aft_model.specs.Evidence.{pairs_in, stored_in}
use Rattle.aft_model.specs.History.{followed}
use Rattle.aft_model.specs.LegalDoor.{may_come}
use Rattle.aft_model.specs.Looks.{IsCleared, look, look_after}
use Rattle.aft_model.specs.Membership.{Incarnation, incarnation, is_up, same_incarnation, the_office}
use Rattle.aft_model.specs.Readings.{marker_name, markers_in, record_name, version_name}
use Rattle.aft_model.specs.Sound.{markers_prefix}
use Rattle.aft_model.specs.Stages.{HasClaimed, HasPut, IsClear, IsClosed, IsIdle, IsUnrecorded, Stage, has_deleted_marker, is_in_stage, put_after, put_under_claim, stage, stage_after}
use Rattle.aft_model.proofs.Histories.{In, any_found, any_from, in_back, in_flat_map}
use Rattle.aft_model.proofs.Ids.{same_ids}
use Rattle.aft_model.proofs.OneCommit.{held_same, same_itself}
use Rattle.aft_model.proofs.Sights.{bytes_eq-refl, read-name, same_bytes}
use Rattle.aft_model.proofs.Turns.{held_up}
use Rattle.law_names.proofs.Differ.{first_differs, spelled}
use Rattle.law_names.proofs.Proven.{marked_limits}
use Rattle.law_kept.specs.Kept.{Comes, Holding, Kept, Looking, Unused}
use Rattle.law_kept.specs.Outcomes.{MayRecord, OnlyAbsent, ProvenOf, records_at}
use Rattle.law_kept.specs.Tried.{deletes_of, markers_put}
use Rattle.law_kept.proofs.After.{News, absent_stays}
use Rattle.law_kept.proofs.Calm.{holding_stays}
use Rattle.law_kept.proofs.Fates.{NewAt, markers_by, record_of_uuid, under}
use Rattle.law_kept.proofs.Gone.{Completes, flat_map_in, full_proven}
use Rattle.law_kept.proofs.LookKnown.{look_is_knowledge}
use Rattle.law_kept.proofs.Members.{put-snoc}
use Rattle.law_kept.proofs.PutMarker.{same_commit_itself}
use Rattle.law_kept.proofs.Quiet.{forgotten_fate, may_be_absent, still_unforgotten, unmarked_where_absent}
use Rattle.law_kept.proofs.Steps.{come, deleted_effect, in_stage, made_before}
use Rattle.law_kept.proofs.Unmoved.{Moves, Unmoving, kept_held, kept_unmoved}
use Rattle.law_kept.proofs.Written.{delete_writes, key_of_commit, possible_limits, same_marker_name, same_record_name, same_version_id, version_limits}

-- a delete of another name than the marker's moves nothing
delete_unmoving : (uuid : List ℕ) (node inc : ℕ) (name : List ℕ) (answer : KeeperAnswer) → bytes_eq name (marker_name uuid) ≡ false → Unmoving uuid (Call node inc (Delete name) answer)
delete_unmoving uuid node inc name answer other = record { claim = λ held. refl; stage_is = λ who s. stages (same_incarnation who (incarnation node inc)) s; finding = λ id of held l. refl }
  where
    stages : (t : Bool) (s : Stage) → (if t then (if bytes_eq name (marker_name uuid) then has_deleted_marker s else s) else s) ≡ s
    stages true s = ap (λ u. if u then has_deleted_marker s else s) other
    stages false s = refl

delete_puts_none : (who : Incarnation) (uuid : List ℕ) (puts : List Commit) (node inc : ℕ) (name : List ℕ) (answer : KeeperAnswer) → put_after who uuid puts (Call node inc (Delete name) answer) ≡ puts
delete_puts_none who uuid puts node inc name answer = cases (same_incarnation who (incarnation node inc))
  where
    cases : (t : Bool) → (if t then puts ++ [] else puts) ≡ puts
    cases true = append-nil puts
    cases false = refl

apart : (a b : List ℕ) → (a ≡ b → ⊥) → bytes_eq a b ≡ false
apart a b differ = false_from_ne_true (bytes_eq a b) (λ same. differ (same_bytes a b same))

some_delete : (b : List ℕ) → Some b ≡ None → ⊥
some_delete b e = cc

some_followed : {A : Type 0} (first second : A → Bool) (xs : List A) → IsTrue (followed first (list_any second) xs) → IsTrue (list_any second xs)
some_followed first second [] passed = passed
some_followed first second (x ∷ xs) passed =
    elim (or_cases (first x && list_any second xs) (followed first (list_any second) xs) passed) [
      | inl here ↦ or_right _ _ (and_parts (first x) (list_any second xs) here).1
      | inr later ↦ or_right _ _ (some_followed first second xs later)
    ]

done_is : (m : Marker) (id : TxnId) → In id (done_by m) → m ≡ Done id
done_is (Done other) id (inl is) = ap (λ (i : TxnId). Done i) (sym is)
done_is (Done other) id (inr nowhere) = absurd nowhere
done_is (Full c) id nowhere = absurd nowhere

module _ (uuid : List ℕ) (its : IsUuid uuid) (history : List DoorEntry) (entry : DoorEntry) (comes : Comes history entry) (before : Kept uuid history)
    (node inc : ℕ) (name : List ℕ) (answer : KeeperAnswer) (is : entry.act ≡ Call node inc (Delete name) answer) where
  abbrev longer : List DoorEntry
  longer = history ++ entry ∷ []

  at_name : (n : List ℕ) (o : Option (List ℕ)) → NewAt n entry.act o → (n ≡ name) × (o ≡ None)
  at_name n o new = delete_writes entry.act node inc name answer is n o new

  no_text : (n b : List ℕ) → NewAt n entry.act (Some b) → ⊥
  no_text n b new = some_delete b (at_name n (Some b) new).1

  no_marks : (m : Marker) → In m (markers_put entry.act) → ⊥
  no_marks m put = subst (λ act. In m (markers_put act)) is put

  deleted_version : (c : Commit) → IsTrue (deletes_of c entry) → (key : List ℕ) × In key c.keys × (version_name key c.id ≡ name)
  deleted_version c begins =
      let found = any_found (λ key. deletes (version_name key c.id) entry.act) c.keys begins in
      (found.0, found.1, (at_name (version_name found.0 c.id) None (inl (deleted_effect (version_name found.0 c.id) entry.act found.2))).0)

  -- what is new in a delete
  deleted_news : (NewAt (record_name uuid) entry.act None → IsTrue (knows_marked uuid history)) → (IsTrue (tries_delete (marker_name uuid) entry.act) → OnlyAbsent (record_name uuid) longer)
      → ((id : TxnId) → Completes deletes_of id history entry → id.uuid ≡ uuid → OnlyAbsent (record_name uuid) longer)
      → ((c : Commit) → MayRecord uuid history c → (key : List ℕ) → In key c.keys → version_name key c.id ≡ name → ⊥) → News uuid history entry
  deleted_news unrecorded_by forgets begins stays_by = record {
    record_reads = λ b new. absurd (no_text (record_name uuid) b new);
    recorded = λ b new c within. absurd (no_text (record_name uuid) b new);
    unrecorded = unrecorded_by;
    marker_reads = λ b new. absurd (no_text (marker_name uuid) b new);
    unmarked = λ new. (let same = (at_name (marker_name uuid) None new).0 in
        any_from (λ (e : DoorEntry). tries_delete (marker_name uuid) e.act) entry longer (in_back entry history (entry ∷ []) (inl refl))
        (subst (λ act. IsTrue (tries_delete (marker_name uuid) act)) (sym is) (subst (λ n. IsTrue (bytes_eq (marker_name uuid) n)) same (bytes_eq-refl (marker_name uuid)))));
    marking = λ m put of. absurd (no_marks m put);
    forgetting = λ gone. elim (forgotten_fate uuid history entry gone) [ inl was ↦ inl was | inr now ↦ inr (forgets now) ];
    began = begins;
    stays = λ c may key within o new. stays_by c may key within (at_name (version_name key c.id) o new).0;
  }

  forgets_name : IsTrue (tries_delete (marker_name uuid) entry.act) → marker_name uuid ≡ name
  forgets_name tries = same_bytes (marker_name uuid) name (subst (λ act. IsTrue (tries_delete (marker_name uuid) act)) is tries)

  puts_stay : (who : Incarnation) (id : TxnId) → IsTrue (has_id id (put_under_claim who uuid history)) → IsTrue (has_id id (put_under_claim who uuid longer))
  puts_stay who id was =
      subst (λ cs. IsTrue (has_id id cs)) (sym (put-snoc who uuid history entry ∙ (ap (λ act. put_after who uuid (put_under_claim who uuid history) act) is ∙ delete_puts_none who uuid (put_under_claim who uuid history) node inc name answer))) was

  -- a delete of another name than the marker's, where no version that a holder put is deleted
  kept_but_closed : News uuid history entry → (marker_name uuid ≡ name → ⊥)
      → ((who : Incarnation) → IsTrue (is_held_by who (claimant uuid history)) → (names : List (List ℕ)) → Unused uuid who names history → (n : List ℕ) → In n names → n ≡ name → ⊥) → Kept uuid longer
  kept_but_closed news other untouched =
      kept_unmoved uuid history entry comes before news (λ b new. no_text (record_name uuid) b new)
      (subst (Unmoving uuid) (sym is) (delete_unmoving uuid node inc name answer (apart name (marker_name uuid) (λ e. other (sym e)))))
      (λ who held up holding. holding_stays uuid history entry comes before news (λ b new. no_text (record_name uuid) b new) who
      (λ un. still_unforgotten uuid history entry (false_from_ne_true (tries_delete (marker_name uuid) entry.act) (λ tries. other (forgets_name tries))) un)
      (λ b new. no_text (marker_name uuid) b new) (puts_stay who) (λ names unused n within o new. untouched who held names unused n within (at_name n o new).0) (stage who uuid history) holding)

  -- a stored name is a version's
  stored_name : (who : Incarnation) (names : List (List ℕ)) (unused : Unused uuid who names history) (n : List ℕ) (within : In n names) → n ≡ version_name (unused.stored n within).version.key (unused.stored n within).version.id
  stored_name who names unused n within =
      let stored = unused.stored n within in read-name n (λ (w : Version). version_name w.key w.id) (version_of stored.bytes) stored.version stored.reads

  -- ---- of a record

  record_deleted : (other : List ℕ) → IsUuid other → name ≡ record_name other → IsTrue (knows_marked other history) → Kept uuid longer
  record_deleted other its_other named knows =
      kept_but_closed
      (deleted_news (λ new. subst (λ u. IsTrue (knows_marked u history)) (sym (same_record_name uuid other its its_other ((at_name (record_name uuid) None new).0 ∙ named))) knows)
      (λ tries. absurd (first_differs 114 99 _ _ refl (forgets_name tries ∙ named)))
      (λ id completes of. (let found = deleted_version completes.commit completes.now in absurd (first_differs 118 99 _ _ refl (found.2 ∙ named))))
      (λ c may key within e. first_differs 118 99 _ _ refl (e ∙ named)))
      (λ e. first_differs 114 99 _ _ refl (e ∙ named)) (λ who held names unused n within e. first_differs 118 99 _ _ refl (sym (stored_name who names unused n within) ∙ (e ∙ named)))

  -- ---- of a version

  abbrev Named : List ℕ → TxnId → Type 0
  Named key id = IsName (VersionOf key id) × (name ≡ version_name key id)

  -- whose name is that of a possible commit's version is of its id
  same_commit_id : (key : List ℕ) (id : TxnId) → Named key id → (c : Commit) → MayRecord uuid history c → (k : List ℕ) → In k c.keys → version_name k c.id ≡ name → c.id ≡ id
  same_commit_id key id named c may k within e =
      let limits = possible_limits uuid history before c may in
      same_version_id k key c.id id (key_of_commit c limits k within) named.0.0.0 limits.0.id named.0.0.1 (e ∙ named.1)

  -- whose name is that of a stored version is of the UUID
  same_stored_uuid : (key : List ℕ) (id : TxnId) → Named key id → (who : Incarnation) (names : List (List ℕ)) → Unused uuid who names history → (n : List ℕ) → In n names → n ≡ name → id.uuid ≡ uuid
  same_stored_uuid key id named who names unused n within e =
      let stored = unused.stored n within in
      let limits = version_limits (under n stored.bytes) stored.version stored.made stored.reads in
      ap (λ (i : TxnId). i.uuid) (sym (same_version_id stored.version.key key stored.version.id id limits.0.key named.0.0.0 limits.0.id named.0.0.1 (sym (stored_name who names unused n within) ∙ (e ∙ named.1)))) ∙ stored.of

  none_stays : OnlyAbsent (record_name uuid) history → OnlyAbsent (record_name uuid) longer
  none_stays none = absent_stays uuid history entry comes before (record_name uuid) before.records_known.some none (λ b new. no_text (record_name uuid) b new)

  version_news : (key : List ℕ) (id : TxnId) → Named key id → (id.uuid ≡ uuid → (c : Commit) → MayRecord uuid history c → c.id ≡ id → ⊥)
      → ((i : TxnId) → Completes deletes_of i history entry → i.uuid ≡ uuid → OnlyAbsent (record_name uuid) longer) → News uuid history entry
  version_news key id named none begins =
      deleted_news (λ new. absurd (first_differs 99 118 _ _ refl ((at_name (record_name uuid) None new).0 ∙ named.1))) (λ tries. absurd (first_differs 114 118 _ _ refl (forgets_name tries ∙ named.1))) begins
      (λ c may k within e. (let same = same_commit_id key id named c may k within e in
      none (ap (λ (i : TxnId). i.uuid) (sym same) ∙ record_of_uuid uuid may.outcome c may.among) c may same))

  -- the commit of which a version is deleted has the id
  completed_id : (key : List ℕ) (id : TxnId) → Named key id → (i : TxnId) → (completes : Completes deletes_of i history entry) → completes.commit.id ≡ id
  completed_id key id named i completes =
      let c = completes.commit in
      let limits : IsCommit c = marked_limits c history (made_before history entry comes) (any_from (same_commit c) c (marked history) completes.was_marked (same_commit_itself c)) in
      let found = deleted_version c completes.now in
      same_version_id found.0 key c.id id (key_of_commit c limits found.0 found.1) named.0.0.0 limits.0.id named.0.0.1 (found.2 ∙ named.1)

  marks_of : (c : Commit) → In c (marked history) → c.id.uuid ≡ uuid → IsTrue (knows_marked uuid history)
  marks_of c among of = any_from (has_uuid uuid) c (marked history) among (subst (λ u. IsTrue (bytes_eq uuid u)) (sym of) (bytes_eq-refl uuid))

  -- by the rule on retired versions
  retired_deleted : (key : List ℕ) (id : TxnId) → Named key id → IsTrue (knows_record_gone id history) → Kept uuid longer
  retired_deleted key id named knows =
      kept_but_closed
      (version_news key id named
      (λ of c may same. subst (λ o. In c (records_at uuid o)) (before.gone id (inl knows) of may.outcome may.may) may.among)
      (λ i completes of. (let same = completed_id key id named i completes in
      let i_is = same_ids i completes.commit.id completes.of in
      none_stays (before.gone id (inl knows) (ap (λ (j : TxnId). j.uuid) (sym (i_is ∙ same)) ∙ of)))))
      (λ e. first_differs 114 118 _ _ refl (e ∙ named.1))
      (λ who held names unused n within e. (let of = same_stored_uuid key id named who names unused n within e in
      let found = any_found (λ (c : Commit). same_id id c.id && marked_then (list_any (shows_gone c)) c history) (marked history) knows in
      let its_id = same_ids id found.0.id (and_parts (same_id id found.0.id) (marked_then (list_any (shows_gone found.0)) found.0 history) found.2).0 in
      unmarked_where_absent uuid history before unused.free.unforgotten (may_be_absent (marker_name uuid) history before.markers_known.some unused.marker_gone)
      (marks_of found.0 found.1 (ap (λ (j : TxnId). j.uuid) (sym its_id) ∙ of))))

  -- by the rule on orphan versions
  orphan_deleted : (key : List ℕ) (id : TxnId) → Named key id → IsTrue (holds the_office id.uuid history) → look id history ≡ IsCleared → Kept uuid longer
  orphan_deleted key id named held cleared =
      kept_but_closed
      (version_news key id named (λ of c may same. (looked of).0 c (subst (λ u. MayRecord u history c) (sym of) may) same)
      (λ i completes of. (let same = completed_id key id named i completes in
      let i_is = same_ids i completes.commit.id completes.of in
      let of_id : id.uuid ≡ uuid = ap (λ (j : TxnId). j.uuid) (sym (i_is ∙ same)) ∙ of in
      let its_uuid : completes.commit.id.uuid ≡ uuid = ap (λ (j : TxnId). j.uuid) same ∙ of_id in
      none_stays (elim (before.full completes.commit (before.marked_tried (Full completes.commit) (inr (full_proven completes.commit history completes.was_marked, its_uuid))) its_uuid).1 [
        | inl committed_it ↦ absurd ((looked of_id).1 (completes.commit, committed_it, same))
        | inr retired ↦ retired.record_gone
      ]))))
      (λ e. first_differs 114 118 _ _ refl (e ∙ named.1))
      (λ who held_it names unused n within e. (let of = same_stored_uuid key id named who names unused n within e in
      let mine = held_same who the_office (claimant uuid history) held_it (subst (λ u. IsTrue (is_held_by the_office (claimant u history))) of (held_up the_office history (claimant id.uuid history) held).0) in
      true≢false (sym (ap (λ (w : Incarnation). eqb w.node 0) mine) ∙ unused.of_node n within)))
    where
      looked : id.uuid ≡ uuid → Looking id history IsCleared
      looked of = subst (Looking id history) cleared (before.looking id of (subst (λ u. IsTrue (is_held_by the_office (claimant u history))) of (held_up the_office history (claimant id.uuid history) held).0))

  -- ---- of a marker

  found_pair : (who : Incarnation) (e : DoorEntry) → IsTrue (finds who (marker_name uuid) (is_short_of uuid) e.act) → (pair : Pair) × In pair (proven_pairs e) × IsTrue (is_short_of uuid pair)
  found_pair who e finds_it = go e.act refl finds_it
    where
      go : (act : DoorAct) → e.act ≡ act → IsTrue (finds who (marker_name uuid) (is_short_of uuid) act) → (pair : Pair) × In pair (proven_pairs e) × IsTrue (is_short_of uuid pair)
      go (Call n i (Get got) (Found bytes)) it finds_it = (
        under got bytes,
        subst (λ act. In (under got bytes) (stored_in act ++ pairs_in act)) (sym it) (inl refl),
        (and_parts (same_incarnation who (incarnation n i) && bytes_eq (marker_name uuid) got) (is_short_of uuid (under got bytes)) finds_it).1,
      )
      go act it finds_it = absurd (false≢true finds_it)

  -- whoever knows a short marker of a UUID was shown one
  short_shown : (who : Incarnation) → IsTrue (knows_short who uuid history) → (id : TxnId) × ProvenOf uuid history (Done id)
  short_shown who knows =
      let entry = any_found (λ (e : DoorEntry). finds who (marker_name uuid) (is_short_of uuid) e.act) history (some_followed (λ (e : DoorEntry). claims who uuid e.act) (λ (e : DoorEntry). finds who (marker_name uuid) (is_short_of uuid) e.act) history knows) in
      let pair = found_pair who entry.0 entry.2 in
      let short = any_found (λ (i : TxnId). bytes_eq uuid i.uuid) (shorts_in pair.0) pair.2 in
      let marker = in_flat_map done_by short.0 (markers_in pair.0) short.1 in (
        short.0,
        (
          flat_map_in (λ (e : DoorEntry). markers_by e) (Done short.0) entry.0 history entry.1
              (flat_map_in markers_in (Done short.0) pair.0 (proven_pairs entry.0) pair.1 (subst (λ m. In m (markers_in pair.0)) (done_is marker.0 short.0 marker.2) marker.1)),
          sym (same_bytes uuid short.0.uuid short.2),
        ),
      )

  marker_deleted : name ≡ marker_name uuid → IsTrue (holds (incarnation node inc) uuid history) → IsTrue (knows_short (incarnation node inc) uuid history) → Kept uuid longer
  marker_deleted named held knows =
      kept_held uuid history entry comes before news (λ b new. no_text (record_name uuid) b new) (λ claim. ap (λ act. claimant_after uuid claim act) is) moves
      (λ id of claim l. ap (λ act. look_after id claim l act) is)
    where
      short : (id : TxnId) × ProvenOf uuid history (Done id)
      short = short_shown (incarnation node inc) knows

      none : OnlyAbsent (record_name uuid) longer
      none = none_stays (before.short short.0 (before.marked_tried (Done short.0) (inr short.1)) short.1.1).0

      news : News uuid history entry
      news = deleted_news (λ new. absurd (first_differs 99 114 _ _ refl ((at_name (record_name uuid) None new).0 ∙ named))) (λ tries. none) (λ id completes of. none)
          (λ c may k within e. first_differs 118 114 _ _ refl (e ∙ named))

      of_node : IsFalse (eqb node 0)
      of_node =
          let staged = subst (λ act. IsTrue (is_in_stage history act)) is (in_stage history entry comes) in
          elim (or_cases (not (starts_with nat_eq name markers_prefix)) (not (eqb node 0)) staged) [
            | inl other ↦ absurd (false≢true (subst (λ n. IsTrue (not (starts_with nat_eq n markers_prefix))) named other))
            | inr at_node ↦ not-true (eqb node 0) at_node
          ]

      closed : (s : Stage) → Holding uuid (incarnation node inc) history s → Holding uuid (incarnation node inc) longer (has_deleted_marker s)
      closed IsIdle holding = holding
      closed HasClaimed holding = of_node
      closed IsUnrecorded holding = of_node
      closed (IsClear names) holding = of_node
      closed (HasPut d) holding = of_node
      closed IsClosed holding = of_node

      moves : Moves uuid history entry comes before news (λ b new. no_text (record_name uuid) b new) (λ who. stage_after who uuid (stage who uuid history) entry.act)
      moves who held_it up holding =
          let mine : who ≡ incarnation node inc = held_same who (incarnation node inc) (claimant uuid history) held_it (held_up (incarnation node inc) history (claimant uuid history) held).0 in
          let same : same_incarnation who (incarnation node inc) ≡ true = subst (λ (i : Incarnation). IsTrue (same_incarnation who i)) mine (same_itself who) in
          let its_marker : bytes_eq name (marker_name uuid) ≡ true = subst (λ n. IsTrue (bytes_eq name n)) named (bytes_eq-refl name) in
          let staged : stage_after who uuid (stage who uuid history) entry.act ≡ has_deleted_marker (stage who uuid history) =
          ap (λ act. stage_after who uuid (stage who uuid history) act) is
          ∙ (ap (λ t. if t then (if bytes_eq name (marker_name uuid) then has_deleted_marker (stage who uuid history) else stage who uuid history) else stage who uuid history) same
          ∙ ap (λ t. if t then has_deleted_marker (stage who uuid history) else stage who uuid history) its_marker) in
          subst (Holding uuid who longer) (sym staged)
          (subst (λ (i : Incarnation). Holding uuid i longer (has_deleted_marker (stage who uuid history))) (sym mine)
          (closed (stage who uuid history) (subst (λ (i : Incarnation). Holding uuid i history (stage who uuid history)) mine holding)))

  -- a marker of another UUID
  other_marker : (other : List ℕ) → IsUuid other → name ≡ marker_name other → bytes_eq uuid other ≡ false → Kept uuid longer
  other_marker other its_other named differs =
      kept_but_closed
      (deleted_news (λ new. absurd (first_differs 99 114 _ _ refl ((at_name (record_name uuid) None new).0 ∙ named))) (λ tries. absurd (not_its (forgets_name tries)))
      (λ id completes of. (let found = deleted_version completes.commit completes.now in absurd (first_differs 118 114 _ _ refl (found.2 ∙ named)))) (λ c may k within e. first_differs 118 114 _ _ refl (e ∙ named)))
      not_its (λ who held names unused n within e. first_differs 118 114 _ _ refl (sym (stored_name who names unused n within) ∙ (e ∙ named)))
    where
      not_its : marker_name uuid ≡ name → ⊥
      not_its e =
          let same : uuid ≡ other = same_marker_name uuid other its its_other (e ∙ named) in
          true≢false (sym (bytes_eq-refl uuid) ∙ (ap (bytes_eq uuid) same ∙ differs))

  -- ---- each delete

  of_name : (o : Option Name) → name_of name ≡ o → IsTrue (may_delete history (incarnation node inc) o) → Kept uuid longer
  of_name None named rule = absurd (false≢true rule)
  of_name (Some (CommitOf other)) named rule =
      let spelling = spelled name (CommitOf other) named in
      record_deleted other spelling.0.0 spelling.1 (and_parts (same_incarnation the_office (incarnation node inc)) (knows_marked other history) rule).1
  of_name (Some (VersionOf key id)) named rule =
      let spelling = spelled name (VersionOf key id) named in
      elim (or_cases (knows_record_gone id history) (may_delete_orphan history id) (and_parts (same_incarnation the_office (incarnation node inc)) (knows_record_gone id history || may_delete_orphan history id) rule).1) [
        | inl gone ↦ retired_deleted key id spelling gone
        | inr orphan ↦ orphan_deleted key id spelling (and_parts (holds the_office id.uuid history) _ orphan).0 (look_is_knowledge id history orphan)
      ]
  of_name (Some (RetiredOf other)) named rule =
      let spelling = spelled name (RetiredOf other) named in
      let parts = and_parts (holds (incarnation node inc) other history) (knows_short (incarnation node inc) other history) rule in
      elim (cases_Bool (bytes_eq uuid other)) [
        | inl same ↦ (let it = sym (same_bytes uuid other same) in
            marker_deleted (spelling.1 ∙ ap marker_name it) (subst (λ u. IsTrue (holds (incarnation node inc) u history)) it parts.0) (subst (λ u. IsTrue (knows_short (incarnation node inc) u history)) it parts.1))
        | inr differs ↦ other_marker other spelling.0.0 spelling.1 differs
      ]

  pub kept_behind_delete : Kept uuid longer
  kept_behind_delete =
      let ruled = subst (λ act. IsTrue (may_come history act)) is (come history entry comes) in
      of_name (name_of name) refl (and_parts (is_up (incarnation node inc) history) (may_delete history (incarnation node inc) (name_of name)) ruled).1
