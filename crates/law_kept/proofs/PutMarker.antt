-- A UUID is kept behind a put of a marker.
use Rattle.std.proofs.Common.{◌≡◌, ℕ, Bool, true, false, ◌&&◌, ◌||◌, not, List, [], ◌∷◌, ◌++◌, refl, sym, ap, subst, ◌∙◌, ◌⊎◌, inl, inr, eqb, append-nil, take, length, zero, suc, arith, ◌≤◌, ◌<◌, ◌+◌}
use Rattle.std.specs.Prelude.{IsTrue, IsFalse, Option, Some, None, if◌then◌else◌}
use Rattle.std.specs.Cmp.Lexicographic.{pointwise}
use Rattle.std.specs.List.{list_any, list_all, range_with_len, fold}
use Rattle.std.specs.Str.{bytes_eq}
use Rattle.std.proofs.lemmas.Bool.{and_parts, and_from, or_cases, not-true, true≢false}
use Rattle.aft_id.specs.declared.txn_id.TxnId.{TxnId}
use Rattle.aft_id.specs.TxnId.{IsUuid, same_id}
use Rattle.aft_keeper.specs.declared.keeper.KeeperAnswer.{KeeperAnswer}
use Rattle.aft_keeper.specs.declared.keeper.KeeperCall.TheVariants.{Put}
use Rattle.aft_keeper.specs.declared.keeper.Pair.{Pair}
use Rattle.aft_records.specs.declared.stored.Commit.{Commit}
use Rattle.aft_records.specs.declared.stored.Marker.{Marker}
use Rattle.aft_records.specs.declared.stored.Marker.TheVariants.{Done, Full}
use Rattle.aft_records.specs.declared.stored.Version.{Version}
use Rattle.aft_records.specs.Commits.{has_id, has_uuid, is_among, same_commit}
use Rattle.aft_records.specs.Stored.{IsCommit}
use Rattle.aft_records.specs.Superseded.{is_superseded}
use Rattle.aft_records.specs.Reading.{commit_of, marker_of, version_of}
use Rattle.aft_model.specs.declared.door.DoorAct.{DoorAct}
use Rattle.aft_model.specs.declared.door.DoorAct.TheVariants.{Call}
use Rattle.aft_model.specs.declared.door.DoorEntry.{DoorEntry}
use Rattle.aft_model.specs.Bytes.{are_bytes, acts_bytes}
use Rattle.aft_model.specs.Claims.{claimant, forgotten, if_up, is_held_by, holds, tries_delete}
use Rattle.aft_model.specs.Committed.{committed, marked, marked_by, marks_in, retired_by}
use Rattle.aft_model.specs.DoorKnowledge.{deletes, has_deleted, knows_marked, knows_superseded, knows_versions_gone, marked_then}
use Rattle.aft_model.specs.DoorRules.{all_gave_up, may_put_marker}
use Rattle.aft_model.specs.Membership.{Incarnation, incarnation, is_up, same_incarnation, the_office, ups}
use Rattle.aft_model.specs.Readings.{id_of_marker, marker_name, markers_in, record_name, records_in, version_name, versions_in}
use Rattle.aft_model.specs.Stages.{HasClaimed, HasPut, IsClear, IsClosed, IsIdle, IsUnrecorded, Stage, commits_of, has_put_pair, has_put_record, has_stored_version, put_after, put_under_claim, retires_unheld_in, stage, versions_of, was_unheld}
use Rattle.aft_model.proofs.Histories.{In, all_at, any_found, any_from}
use Rattle.aft_model.proofs.Ids.{same_commits, same_id-refl, same_ids}
use Rattle.aft_model.proofs.OneCommit.{same_who}
use Rattle.aft_model.proofs.Turns.{followed_implied}
use Rattle.aft_model.proofs.Lists.{filter_in, in_filter}
use Rattle.aft_model.proofs.Sights.{bytes_eq-refl, read-name, read-one, same_bytes}
use Rattle.law_names.proofs.Differ.{first_differs}
use Rattle.law_names.proofs.Proven.{marked_limits}
use Rattle.law_kept.specs.Kept.{CommittedId, Comes, Holding, Kept, Unused}
use Rattle.law_kept.specs.Outcomes.{OnlyAbsent}
use Rattle.law_kept.specs.Tried.{RetiredBefore, began_to_delete, deletes_of, markers_put}
use Rattle.law_kept.proofs.After.{Marking, News, absent_stays}
use Rattle.law_kept.proofs.Calm.{holding_stays, unrecorded_stays}
use Rattle.law_kept.proofs.Fates.{NewAt, under}
use Rattle.law_kept.proofs.Gone.{flat_map_in, full_proven}
use Rattle.law_kept.proofs.Members.{put-snoc}
use Rattle.law_kept.proofs.Quiet.{forgotten_fate, may_be_absent, still_unforgotten, unmarked_where_absent}
use Rattle.law_kept.proofs.Steps.{deleted_effect, made_act, made_before, unheld}
use Rattle.law_kept.proofs.Unmoved.{Unmoving, kept_unmoved}
use Rattle.law_kept.proofs.Written.{empty_if, marker_limits, marker_uuid, put_writes, same_marker_name}

-- a put of a pair that is no record and no version moves nothing
pub put_unmoving : (uuid : List ℕ) (node inc : ℕ) (name bytes : List ℕ) (answer : KeeperAnswer) → versions_of uuid (under name bytes) ≡ [] → commits_of uuid (under name bytes) ≡ []
    → Unmoving uuid (Call node inc (Put name bytes) answer)
put_unmoving uuid node inc name bytes answer no_versions no_commits = record { claim = λ held. refl; stage_is = λ who s. stages (same_incarnation who (incarnation node inc)) s; finding = λ id of held l. refl }
  where
    same : (s : Stage) → has_put_pair uuid (under name bytes) answer s ≡ s
    same s =
        ap (λ cs. fold (λ (t : Stage) (c : Commit). has_put_record c t) (fold (λ (t : Stage) (v : Version). has_stored_version name answer t) s (versions_of uuid (under name bytes))) cs) no_commits
        ∙ ap (λ vs. fold (λ (t : Stage) (v : Version). has_stored_version name answer t) s vs) no_versions

    stages : (t : Bool) (s : Stage) → (if t then has_put_pair uuid (under name bytes) answer s else s) ≡ s
    stages true s = same s
    stages false s = refl

pub put_none : (who : Incarnation) (uuid : List ℕ) (puts : List Commit) (node inc : ℕ) (name bytes : List ℕ) (answer : KeeperAnswer) → commits_of uuid (under name bytes) ≡ []
    → put_after who uuid puts (Call node inc (Put name bytes) answer) ≡ puts
put_none who uuid puts node inc name bytes answer none = cases (same_incarnation who (incarnation node inc))
  where
    cases : (t : Bool) → (if t then puts ++ commits_of uuid (under name bytes) else puts) ≡ puts
    cases true = ap (λ cs. puts ++ cs) none ∙ append-nil puts
    cases false = refl

-- what is none of a UUID
pub no_commits_of : (uuid : List ℕ) (pair : Pair) → ((c : Commit) → In c (records_in pair) → c.id.uuid ≡ uuid → ⊥) → commits_of uuid pair ≡ []
no_commits_of uuid pair none = empty_if (commits_of uuid pair) (λ c among. let found = in_filter (has_uuid uuid) c (records_in pair) among in none c found.0 (sym (same_bytes uuid c.id.uuid found.1)))

pub no_versions_of : (uuid : List ℕ) (pair : Pair) → ((v : Version) → In v (versions_in pair) → v.id.uuid ≡ uuid → ⊥) → versions_of uuid pair ≡ []
no_versions_of uuid pair none = empty_if (versions_of uuid pair) (λ v among. let found = in_filter (λ (w : Version). bytes_eq uuid w.id.uuid) v (versions_in pair) among in none v found.0 (sym (same_bytes uuid v.id.uuid found.1)))

-- a put deletes nothing
pub put_forgets_none : (name : List ℕ) (act : DoorAct) (node inc : ℕ) (put bytes : List ℕ) (answer : KeeperAnswer) → act ≡ Call node inc (Put put bytes) answer → IsFalse (tries_delete name act)
put_forgets_none name act node inc put bytes answer is = ap (λ a. tries_delete name a) is

pub put_begins_none : (history : List DoorEntry) (entry : DoorEntry) (node inc : ℕ) (name bytes : List ℕ) (answer : KeeperAnswer) → entry.act ≡ Call node inc (Put name bytes) answer → (c : Commit) → IsTrue (deletes_of c entry) → ⊥
put_begins_none history entry node inc name bytes answer is c begins =
    let found = any_found (λ key. deletes (version_name key c.id) entry.act) c.keys begins in
    let it = put_writes entry.act node inc name bytes answer is (version_name found.0 c.id) None (inl (deleted_effect (version_name found.0 c.id) entry.act found.2)) in
    let no : None ≡ Some bytes = it.1 in cc

keys_themselves : (keys : List (List ℕ)) → IsTrue (pointwise bytes_eq keys keys)
keys_themselves [] = refl
keys_themselves (key ∷ keys) = and_from _ _ (bytes_eq-refl key) (keys_themselves keys)

pub same_commit_itself : (c : Commit) → IsTrue (same_commit c c)
same_commit_itself c = and_from _ _ (same_id-refl c.id) (keys_themselves c.keys)

first_key : (keys : List (List ℕ)) → 1 ≤ length keys → (key : List ℕ) × In key keys
first_key [] some = absurd (omega (arith, some))
first_key (key ∷ keys) some = (key, inl refl)

-- where each version was deleted, that of a key was
begins_with : (c : Commit) (rest : List DoorEntry) → (key : List ℕ) × In key c.keys → IsTrue (has_deleted c rest) → IsTrue (list_any (deletes_of c) rest)
begins_with c rest key all =
    let some = all_at (λ k. list_any (λ (e : DoorEntry). deletes (version_name k c.id) e.act) rest) key.0 c.keys key.1 all in
    let entry = any_found (λ (e : DoorEntry). deletes (version_name key.0 c.id) e.act) rest some in
    any_from (deletes_of c) entry.0 rest entry.1 (any_from (λ k. deletes (version_name k c.id) entry.0.act) key.0 c.keys key.1 entry.2)

within_range : (start n x : ℕ) → In x (range_with_len start n) → x < start + n
within_range start zero x among = absurd among
within_range start (suc n) x (inl here) = omega (arith, here)
within_range start (suc n) x (inr later) = (let rest = within_range (start + 1) n x later in omega (arith, rest))

pub held_holds : (who : Incarnation) (uuid : List ℕ) (history : List DoorEntry) → IsTrue (is_held_by who (claimant uuid history)) → IsTrue (is_up who history) → IsTrue (holds who uuid history)
held_holds who uuid history held up = go (claimant uuid history) held
  where
    go : (c : Option Incarnation) → IsTrue (is_held_by who c) → IsTrue (is_held_by who (if_up history c))
    go None held = held
    go (Some other) held =
        let there : is_up other history ≡ true = subst (λ (i : Incarnation). IsTrue (is_up i history)) (same_who who other held) up in
        subst (λ t. IsTrue (is_held_by who (if t then Some other else None))) (sym there) held

module _ (uuid : List ℕ) (its : IsUuid uuid) (history : List DoorEntry) (entry : DoorEntry) (comes : Comes history entry) (before : Kept uuid history)
    (node inc : ℕ) (name bytes : List ℕ) (answer : KeeperAnswer) (is : entry.act ≡ Call node inc (Put name bytes) answer)
    (m : Marker) (among : In m (markers_in (under name bytes))) (rule : IsTrue (may_put_marker history (incarnation node inc) m)) where
  abbrev longer : List DoorEntry
  longer = history ++ entry ∷ []

  abbrev its_pair : Pair
  its_pair = under name bytes

  named : name ≡ marker_name (id_of_marker m).uuid
  named = read-name name (λ (n : Marker). marker_name (id_of_marker n).uuid) (marker_of bytes) m among

  made : IsTrue (are_bytes bytes)
  made = (and_parts (are_bytes name) (are_bytes bytes) (and_parts (are_bytes name && are_bytes bytes) _ (subst (λ act. IsTrue (acts_bytes act)) is (made_act history entry comes))).0).1

  at_name : (n : List ℕ) (o : Option (List ℕ)) → NewAt n entry.act o → (n ≡ marker_name (id_of_marker m).uuid) × (o ≡ Some bytes)
  at_name n o new = let it = put_writes entry.act node inc name bytes answer is n o new in (it.0 ∙ named, it.1)

  no_record : (o : Option (List ℕ)) → NewAt (record_name uuid) entry.act o → ⊥
  no_record o new = first_differs 99 114 _ _ refl (at_name (record_name uuid) o new).0

  of_uuid : (o : Option (List ℕ)) → NewAt (marker_name uuid) entry.act o → (id_of_marker m).uuid ≡ uuid
  of_uuid o new = sym (same_marker_name uuid (id_of_marker m).uuid its (marker_uuid m (marker_limits its_pair m made among)) (at_name (marker_name uuid) o new).0)

  unforgotten : IsFalse (forgotten uuid history) → IsFalse (forgotten uuid longer)
  unforgotten un = still_unforgotten uuid history entry (put_forgets_none (marker_name uuid) entry.act node inc name bytes answer is) un

  -- the commit of which a marked one has all its versions deleted
  versions_gone : (id : TxnId) → IsTrue (knows_versions_gone id history) → id.uuid ≡ uuid → OnlyAbsent (record_name uuid) history × (CommittedId id history ⊎ RetiredBefore uuid history) × IsTrue (knows_marked uuid history)
  versions_gone id knows of =
      let found = any_found (λ (c : Commit). same_id id c.id && marked_then (has_deleted c) c history) (marked history) knows in
      let c = found.0 in
      let parts = and_parts (same_id id c.id) (marked_then (has_deleted c) c history) found.2 in
      let its_id : id ≡ c.id = same_ids id c.id parts.0 in
      let its_uuid : c.id.uuid ≡ uuid = ap (λ (i : TxnId). i.uuid) (sym its_id) ∙ of in
      let marks : IsTrue (knows_marked uuid history) = any_from (has_uuid uuid) c (marked history) found.1 (subst (λ u. IsTrue (bytes_eq uuid u)) (sym its_uuid) (bytes_eq-refl uuid)) in
      let limits : IsCommit c = marked_limits c history (made_before history entry comes) (any_from (same_commit c) c (marked history) found.1 (same_commit_itself c)) in
      let begun : IsTrue (marked_then (list_any (deletes_of c)) c history) =
      followed_implied (λ (e : DoorEntry). is_among c (marked_by e)) (has_deleted c) (list_any (deletes_of c)) (λ rest all. begins_with c rest (first_key c.keys limits.0.keys.some) all) history parts.1 in
      let began : IsTrue (began_to_delete id history) = any_from (λ (d : Commit). same_id id d.id && marked_then (list_any (deletes_of d)) d history) c (marked history) found.1 (and_from _ _ parts.0 begun) in
      let full = (before.full c (before.marked_tried (Full c) (inr (full_proven c history found.1, its_uuid))) its_uuid).1 in (
        before.gone id (inr began) of,
        elim full [ inl committed_it ↦ inl (c, committed_it, sym its_id) | inr retired ↦ inr retired ],
        marks,
      )

  marking : (n : Marker) → n ≡ m → (id_of_marker n).uuid ≡ uuid → Marking uuid history entry n
  marking (Full c) same of =
      let ruled = subst (λ k. IsTrue (may_put_marker history (incarnation node inc) k)) (sym same) rule in
      let knows = and_parts (is_among c (committed history)) (is_superseded c (committed history)) (and_parts (same_incarnation the_office (incarnation node inc)) (knows_superseded c history) (and_parts _ (all_gave_up history c.id) ruled).0).1 in
      let found = any_found (same_commit c) (committed history) knows.0 in
      (knows.1, subst (λ d. In d (committed history)) (sym (same_commits c found.0 found.2)) found.1)
  marking (Done id) same of =
      let ruled = subst (λ k. IsTrue (may_put_marker history (incarnation node inc) k)) (sym same) rule in
      let gone = versions_gone id (and_parts (same_incarnation the_office (incarnation node inc)) (knows_versions_gone id history) ruled).1 of in
      (absent_stays uuid history entry comes before (record_name uuid) before.records_known.some gone.0 (λ b new. no_record (Some b) new), gone.1)

  news : News uuid history entry
  news = record {
    record_reads = λ b new. absurd (no_record (Some b) new);
    recorded = λ b new c within. absurd (no_record (Some b) new);
    unrecorded = λ new. absurd (no_record None new);
    marker_reads = λ b new. (let it = at_name (marker_name uuid) (Some b) new in
        let same : bytes ≡ b = let e : Some b ≡ Some bytes = it.1 in cc in (
          subst (λ x. IsTrue (are_bytes x)) same made,
          m,
          filter_in (λ (n : Marker). bytes_eq uuid (id_of_marker n).uuid) m (markers_in (under (marker_name uuid) b))
              (subst (λ x. In m (markers_in (under (marker_name uuid) x))) same (subst (λ n. In m (markers_in (under n bytes))) (named ∙ sym it.0) among))
              (subst (λ u. IsTrue (bytes_eq uuid u)) (sym (of_uuid (Some b) new)) (bytes_eq-refl uuid)),
        ));
    unmarked = λ new. (let it = at_name (marker_name uuid) None new in let no : None ≡ Some bytes = it.1 in absurd (cc));
    marking = λ n put of. (let within : In n (markers_in its_pair) = subst (λ act. In n (markers_put act)) is put in
        marking n (read-one name (λ (k : Marker). marker_name (id_of_marker k).uuid) (marker_of bytes) n m within among) of);
    forgetting = λ gone. elim (forgotten_fate uuid history entry gone) [ inl was ↦ inl was | inr now ↦ absurd (true≢false (sym now ∙ put_forgets_none (marker_name uuid) entry.act node inc name bytes answer is)) ];
    began = λ id completes of. absurd (put_begins_none history entry node inc name bytes answer is completes.commit completes.now);
    stays = λ c may key within o new. first_differs 118 114 _ _ refl (at_name (version_name key c.id) o new).0;
  }

  no_commits : commits_of uuid its_pair ≡ []
  no_commits = no_commits_of uuid its_pair (λ c within of. first_differs 99 114 _ _ refl (sym (read-name name (λ (d : Commit). record_name d.id.uuid) (commit_of bytes) c within) ∙ named))

  no_versions : versions_of uuid its_pair ≡ []
  no_versions = no_versions_of uuid its_pair (λ v within of. first_differs 118 114 _ _ refl (sym (read-name name (λ (w : Version). version_name w.key w.id) (version_of bytes) v within) ∙ named))

  -- a marker of the UUID is put where nobody is clear or records
  against_clear : (who : Incarnation) (names : List (List ℕ)) → (id_of_marker m).uuid ≡ uuid → Unused uuid who names history → ⊥
  against_clear who names of unused = go m refl
    where
      go : (n : Marker) → n ≡ m → ⊥
      go (Full c) same = unused.uncommitted c ((marking (Full c) same (ap (λ k. (id_of_marker k).uuid) same ∙ of)).1, ap (λ k. (id_of_marker k).uuid) same ∙ of)
      go (Done id) same =
          let ruled = subst (λ k. IsTrue (may_put_marker history (incarnation node inc) k)) (sym same) rule in
          let gone = versions_gone id (and_parts (same_incarnation the_office (incarnation node inc)) (knows_versions_gone id history) ruled).1 (ap (λ k. (id_of_marker k).uuid) same ∙ of) in
          unmarked_where_absent uuid history before unused.free.unforgotten (may_be_absent (marker_name uuid) history before.markers_known.some unused.marker_gone) gone.2

  against_put : (who : Incarnation) (d : Commit) → IsTrue (is_held_by who (claimant uuid history)) → IsTrue (is_up who history) → (id_of_marker m).uuid ≡ uuid → Holding uuid who history (HasPut d) → ⊥
  against_put who d held up of recording = go m refl
    where
      was_held : (c : Commit) → c ≡ d → c.id.uuid ≡ uuid → In c (marks_in its_pair) → ⊥
      was_held c same its_uuid marks =
          let rule_all = subst (λ act. IsTrue (retires_unheld_in history act)) is (unheld history entry comes) in
          let each = all_at (λ (e : Commit). list_all (λ (w : Incarnation). eqb w.node 0 || not (holds w e.id.uuid history) || was_unheld e history w) (ups history)) c (marks_in its_pair) marks rule_all in
          let there = any_found (same_incarnation who) (ups history) up in
          let mine = subst (λ (w : Incarnation). In w (ups history)) (sym (same_who who there.0 there.2)) there.1 in
          let one = all_at (λ (w : Incarnation). eqb w.node 0 || not (holds w c.id.uuid history) || was_unheld c history w) who (ups history) mine each in
          elim (or_cases (eqb who.node 0 || not (holds who c.id.uuid history)) (was_unheld c history who) one) [
            | inl first ↦ elim (or_cases (eqb who.node 0) (not (holds who c.id.uuid history)) first) [
              | inl office ↦ true≢false (sym office ∙ recording.of_node)
              | inr free ↦ true≢false (sym (held_holds who uuid history held up) ∙ subst (λ u. IsFalse (holds who u history)) its_uuid (not-true (holds who c.id.uuid history) free))
            ]
            | inr was ↦ (let at = any_found (λ seen. has_id c.id (committed (take seen history)) && not (has_id c.id (put_under_claim who c.id.uuid (take seen history)))) (range_with_len 0 (suc (length history))) was in
                let parts = and_parts (has_id c.id (committed (take at.0 history))) (not (has_id c.id (put_under_claim who c.id.uuid (take at.0 history)))) at.2 in
                let e = any_found (λ (e : Commit). same_id c.id e.id) (committed (take at.0 history)) parts.0 in
                let of_e : e.0.id.uuid ≡ uuid = ap (λ (i : TxnId). i.uuid) (sym (same_ids c.id e.0.id e.2)) ∙ its_uuid in
                let below = within_range 0 (suc (length history)) at.0 at.1 in
                let put = recording.put_before at.0 (omega (arith, below)) e.0 (e.1, of_e) in
                let none = not-true (has_id c.id (put_under_claim who c.id.uuid (take at.0 history))) parts.1 in
                true≢false (sym put ∙ subst (λ u. IsFalse (has_id d.id (put_under_claim who u (take at.0 history)))) its_uuid (subst (λ (f : Commit). IsFalse (has_id f.id (put_under_claim who c.id.uuid (take at.0 history)))) same none)))
          ]

      go : (n : Marker) → n ≡ m → ⊥
      go (Full c) same =
          let its_uuid : c.id.uuid ≡ uuid = ap (λ k. (id_of_marker k).uuid) same ∙ of in
          let committed_it = (marking (Full c) same its_uuid).1 in
          was_held c (recording.alone c (inl (committed_it, its_uuid))) its_uuid (flat_map_in retired_by c (Full c) (markers_in its_pair) (subst (λ k. In k (markers_in its_pair)) (sym same) among) (inl refl))
      go (Done id) same =
          let ruled = subst (λ k. IsTrue (may_put_marker history (incarnation node inc) k)) (sym same) rule in
          let gone = versions_gone id (and_parts (same_incarnation the_office (incarnation node inc)) (knows_versions_gone id history) ruled).1 (ap (λ k. (id_of_marker k).uuid) same ∙ of) in
          unmarked_where_absent uuid history before recording.unforgotten (may_be_absent (marker_name uuid) history before.markers_known.some recording.marker_gone) gone.2

  moves : (who : Incarnation) → IsTrue (is_held_by who (claimant uuid history)) → IsTrue (is_up who history) → (s : Stage) → Holding uuid who history s → Holding uuid who longer s
  moves who held up IsIdle holding = holding
  moves who held up HasClaimed holding = unforgotten holding
  moves who held up IsUnrecorded holding = unrecorded_stays uuid history entry comes before news (λ b new. no_record (Some b) new) who unforgotten holding
  moves who held up (IsClear names) holding =
      holding_stays uuid history entry comes before news (λ b new. no_record (Some b) new) who unforgotten (λ b new. against_clear who names (of_uuid (Some b) new) holding)
      (λ id was. subst (λ cs. IsTrue (has_id id cs)) (sym (put-snoc who uuid history entry ∙ (ap (λ act. put_after who uuid (put_under_claim who uuid history) act) is ∙ put_none who uuid (put_under_claim who uuid history) node inc name bytes answer no_commits))) was)
      (λ its_names unused n within o new. other_stored unused n within o new) (IsClear names) holding
    where
      other_stored : {its_names : List (List ℕ)} (unused : Unused uuid who its_names history) (n : List ℕ) → In n its_names → (o : Option (List ℕ)) → NewAt n entry.act o → ⊥
      other_stored unused n within o new =
          let stored = unused.stored n within in
          first_differs 118 114 _ _ refl (sym (read-name n (λ (w : Version). version_name w.key w.id) (version_of stored.bytes) stored.version stored.reads) ∙ (at_name n o new).0)
  moves who held up (HasPut d) holding =
      holding_stays uuid history entry comes before news (λ b new. no_record (Some b) new) who unforgotten (λ b new. against_put who d held up (of_uuid (Some b) new) holding)
      (λ id was. subst (λ cs. IsTrue (has_id id cs)) (sym (put-snoc who uuid history entry ∙ (ap (λ act. put_after who uuid (put_under_claim who uuid history) act) is ∙ put_none who uuid (put_under_claim who uuid history) node inc name bytes answer no_commits))) was)
      (λ its_names unused n within o new. first_differs 118 114 _ _ refl (sym (read-name n (λ (w : Version). version_name w.key w.id) (version_of (unused.stored n within).bytes) (unused.stored n within).version (unused.stored n within).reads) ∙ (at_name n o new).0)) (HasPut d) holding
  moves who held up IsClosed holding = holding

  pub kept_behind_marker : Kept uuid longer
  kept_behind_marker =
      kept_unmoved uuid history entry comes before news (λ b new. no_record (Some b) new) (subst (Unmoving uuid) (sym is) (put_unmoving uuid node inc name bytes answer no_versions no_commits))
      (λ who held up holding. moves who held up (stage who uuid history) holding)
