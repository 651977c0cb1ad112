-- An incarnation's stage of a UUID is idle exactly where its claim of it doesn't stand.
use Rattle.std.proofs.Common.{◌≡◌, ℕ, Bool, true, false, ◌&&◌, not, List, [], ◌∷◌, ◌++◌, refl, sym, ap, subst, ◌∙◌, ◌⊎◌, inl, inr, append_assoc, append-nil}
use Rattle.std.specs.Prelude.{IsTrue, IsFalse, Option, Some, None, if◌then◌else◌}
use Rattle.std.specs.List.{fold, list_any}
use Rattle.std.specs.Str.{bytes_eq}
use Rattle.std.proofs.lemmas.Bool.{and_from, and_parts, cases_Bool, false≢true, true≢false}
use Rattle.std.proofs.lemmas.List.Sums.{fold-append}
use Rattle.aft_keeper.specs.declared.keeper.KeeperAnswer.{KeeperAnswer}
use Rattle.aft_keeper.specs.declared.keeper.KeeperAnswer.TheVariants.{Absent}
use Rattle.aft_keeper.specs.declared.keeper.KeeperCall.{KeeperCall}
use Rattle.aft_keeper.specs.declared.keeper.KeeperCall.TheVariants as calls
use Rattle.aft_records.specs.declared.stored.Commit.{Commit}
use Rattle.aft_records.specs.declared.stored.Version.{Version}
use Rattle.aft_model.specs.declared.door.DoorAct.{DoorAct}
use Rattle.aft_model.specs.declared.door.DoorAct.TheVariants as doors
use Rattle.aft_model.specs.declared.door.DoorEntry.{DoorEntry}
use Rattle.aft_model.specs.Bytes.{HasBytes, acts_bytes, is_uuid}
use Rattle.aft_model.specs.Claims.{claimant, claimant_after, holds, if_up, is_held_by}
use Rattle.aft_model.specs.Course.{none_is, releases}
use Rattle.aft_model.specs.DoorKnowledge.{claims}
use Rattle.aft_model.specs.History.{followed}
use Rattle.aft_model.specs.LegalDoor.{Legal, may_follow}
use Rattle.aft_model.specs.Membership.{Incarnation, incarnation, is_up, same_incarnation}
use Rattle.aft_model.specs.Readings.{marker_name, record_name}
use Rattle.aft_model.specs.Stages.{HasClaimed, HasPut, IsClear, IsClosed, IsIdle, IsUnrecorded, Stage, commits_of, found_no_marker, found_no_record, has_deleted_marker, has_put_record, has_stored_version, is_own, stage, stage_after, stage_after_call, versions_of}
use Rattle.aft_model.proofs.Histories.{all_at, any_found, any_from, each_after_kept, in_back, in_front}
use Rattle.aft_model.proofs.OneCommit.{claimant-snoc, same_who}
use Rattle.aft_model.proofs.Sights.{same_bytes}
use Rattle.aft_model.proofs.Turns.{Turn, by_rule, followed_last, followed_more, turn_after, turn_at_first}
use Rattle.law_holders.specs.Rows.{is_idle}

-- ---- calls

idle_versions : (name : List ℕ) (answer : KeeperAnswer) (vs : List Version) → fold (λ (s : Stage) (v : Version). has_stored_version name answer s) IsIdle vs ≡ IsIdle
idle_versions name answer [] = refl
idle_versions name answer (v ∷ vs) = idle_versions name answer vs

idle_commits : (cs : List Commit) → fold (λ (s : Stage) (c : Commit). has_put_record c s) IsIdle cs ≡ IsIdle
idle_commits [] = refl
idle_commits (c ∷ cs) = idle_commits cs

either_idle : (one two : Bool) → (if one then IsIdle else if two then IsIdle else IsIdle) ≡ IsIdle
either_idle true two = refl
either_idle false true = refl
either_idle false false = refl

same_either : {A : Type 0} (b : Bool) (x : A) → (if b then x else x) ≡ x
same_either true x = refl
same_either false x = refl

-- a call leaves an idle stage idle
pub idle_call : (uuid : List ℕ) (asked : KeeperCall) (answer : KeeperAnswer) → stage_after_call uuid IsIdle asked answer ≡ IsIdle
idle_call uuid (calls.Get name) Absent = either_idle (bytes_eq name (record_name uuid)) (bytes_eq name (marker_name uuid))
idle_call uuid (calls.Put name bytes) answer =
    ap (λ (s : Stage). fold (λ (t : Stage) (c : Commit). has_put_record c t) s (commits_of uuid (record { name = name; bytes = bytes }))) (idle_versions name answer (versions_of uuid (record { name = name; bytes = bytes })))
    ∙ idle_commits (commits_of uuid (record { name = name; bytes = bytes }))
idle_call uuid (calls.Delete name) answer = same_either (bytes_eq name (marker_name uuid)) IsIdle
idle_call uuid asked answer = refl

-- and one that isn't so
abbrev pub Busy : Stage → Type 0
Busy s = IsFalse (is_idle s)

busy_version : (name : List ℕ) (answer : KeeperAnswer) (s : Stage) → Busy s → Busy (has_stored_version name answer s)
busy_version name answer IsIdle busy = busy
busy_version name answer HasClaimed busy = refl
busy_version name answer IsUnrecorded busy = refl
busy_version name answer (IsClear names) busy = refl
busy_version name answer (HasPut c) busy = refl
busy_version name answer IsClosed busy = refl

busy_versions : (name : List ℕ) (answer : KeeperAnswer) (vs : List Version) (s : Stage) → Busy s → Busy (fold (λ (t : Stage) (v : Version). has_stored_version name answer t) s vs)
busy_versions name answer [] s busy = busy
busy_versions name answer (v ∷ vs) s busy = busy_versions name answer vs (has_stored_version name answer s) (busy_version name answer s busy)

busy_commit : (c : Commit) (s : Stage) → Busy s → Busy (has_put_record c s)
busy_commit c IsIdle busy = busy
busy_commit c HasClaimed busy = refl
busy_commit c IsUnrecorded busy = refl
busy_commit c (IsClear names) busy = refl
busy_commit c (HasPut d) busy = refl
busy_commit c IsClosed busy = refl

busy_commits : (cs : List Commit) (s : Stage) → Busy s → Busy (fold (λ (t : Stage) (c : Commit). has_put_record c t) s cs)
busy_commits [] s busy = busy
busy_commits (c ∷ cs) s busy = busy_commits cs (has_put_record c s) (busy_commit c s busy)

busy_record : (s : Stage) → Busy s → Busy (found_no_record s)
busy_record IsIdle busy = busy
busy_record HasClaimed busy = refl
busy_record IsUnrecorded busy = refl
busy_record (IsClear names) busy = refl
busy_record (HasPut c) busy = refl
busy_record IsClosed busy = refl

busy_marker : (s : Stage) → Busy s → Busy (found_no_marker s)
busy_marker IsIdle busy = busy
busy_marker HasClaimed busy = refl
busy_marker IsUnrecorded busy = refl
busy_marker (IsClear names) busy = refl
busy_marker (HasPut c) busy = refl
busy_marker IsClosed busy = refl

busy_deleted : (s : Stage) → Busy s → Busy (has_deleted_marker s)
busy_deleted IsIdle busy = busy
busy_deleted HasClaimed busy = refl
busy_deleted IsUnrecorded busy = refl
busy_deleted (IsClear names) busy = refl
busy_deleted (HasPut c) busy = refl
busy_deleted IsClosed busy = refl

busy_either : (b : Bool) (s t : Stage) → Busy s → Busy t → Busy (if b then s else t)
busy_either true s t one two = one
busy_either false s t one two = two

pub busy_call : (uuid : List ℕ) (asked : KeeperCall) (answer : KeeperAnswer) (s : Stage) → Busy s → Busy (stage_after_call uuid s asked answer)
busy_call uuid (calls.Get name) Absent s busy = busy_either (bytes_eq name (record_name uuid)) (found_no_record s) _ (busy_record s busy) (busy_either (bytes_eq name (marker_name uuid)) (found_no_marker s) s (busy_marker s busy) busy)
busy_call uuid (calls.Put name bytes) answer s busy = busy_commits (commits_of uuid (record { name = name; bytes = bytes })) _ (busy_versions name answer (versions_of uuid (record { name = name; bytes = bytes })) s busy)
busy_call uuid (calls.Delete name) answer s busy = busy_either (bytes_eq name (marker_name uuid)) (has_deleted_marker s) s (busy_deleted s busy) busy
busy_call uuid asked answer s busy = busy

-- ---- acts

module _ (who : Incarnation) (uuid : List ℕ) where
  -- only a claim makes an idle stage busy
  pub idle_stays : (act : DoorAct) → IsFalse (claims who uuid act) → stage_after who uuid IsIdle act ≡ IsIdle
  idle_stays (doors.Claim claimed node inc) none = ap (λ (b : Bool). if b then HasClaimed else IsIdle) none
  idle_stays (doors.Release released node inc) none = same_either (is_own who uuid node inc released) IsIdle
  idle_stays (doors.Call node inc asked answer) none = cases (same_incarnation who (incarnation node inc))
    where
      cases : (b : Bool) → (if b then stage_after_call uuid IsIdle asked answer else IsIdle) ≡ IsIdle
      cases true = idle_call uuid asked answer
      cases false = refl
  idle_stays act none = refl

  -- and only a release an idle one of a busy one
  pub busy_stays : (act : DoorAct) (s : Stage) → IsFalse (releases who uuid act) → Busy s → Busy (stage_after who uuid s act)
  busy_stays (doors.Claim claimed node inc) s none busy = busy_either (is_own who uuid node inc claimed) HasClaimed s refl busy
  busy_stays (doors.Release released node inc) s none busy = subst (λ (b : Bool). Busy (if b then IsIdle else s)) (sym none) busy
  busy_stays (doors.Call node inc asked answer) s none busy = busy_either (same_incarnation who (incarnation node inc)) (stage_after_call uuid s asked answer) s (busy_call uuid asked answer s busy) busy
  busy_stays act s none busy = busy

  pub stage_idle : (s : Stage) → Busy s ⊎ (s ≡ IsIdle)
  stage_idle IsIdle = inr refl
  stage_idle HasClaimed = inl refl
  stage_idle IsUnrecorded = inl refl
  stage_idle (IsClear names) = inl refl
  stage_idle (HasPut c) = inl refl
  stage_idle IsClosed = inl refl

  pub stage-snoc : (history : List DoorEntry) (entry : DoorEntry) → stage who uuid (history ++ entry ∷ []) ≡ stage_after who uuid (stage who uuid history) entry.act
  stage-snoc history entry = fold-append (λ (s : Stage) (e : DoorEntry). stage_after who uuid s e.act) IsIdle history (entry ∷ [])

  -- ---- a busy stage comes of a claim that wasn't released

  abbrev Kept : List DoorEntry → Type 0
  Kept history = IsTrue (followed (λ (e : DoorEntry). claims who uuid e.act) (none_is (releases who uuid)) history) × IsTrue (list_any (λ (e : DoorEntry). claims who uuid e.act) history)

  released_idle : (act : DoorAct) (s : Stage) → IsTrue (releases who uuid act) → stage_after who uuid s act ≡ IsIdle
  released_idle (doors.Release released node inc) s is = ap (λ (b : Bool). if b then IsIdle else s) is
  released_idle act s is = absurd (false≢true is)

  kept_next : (history : List DoorEntry) (entry : DoorEntry) (s : Stage) → (Busy s → Kept history) → Busy (stage_after who uuid s entry.act) → Kept (history ++ entry ∷ [])
  kept_next history entry s kept busy =
      elim (cases_Bool (claims who uuid entry.act)) [
        | inl claimed ↦
            (followed_last (λ (e : DoorEntry). claims who uuid e.act) (λ (e : DoorEntry). not (releases who uuid e.act)) history entry claimed, any_from (λ (e : DoorEntry). claims who uuid e.act) entry (history ++ entry ∷ []) (in_back entry history (entry ∷ []) (inl refl)) claimed)
        | inr none ↦ elim (stage_idle s) [
          | inl was ↦ elim (cases_Bool (releases who uuid entry.act)) [
            | inl released ↦ absurd (true≢false (subst (λ (t : Stage). IsFalse (is_idle t)) (released_idle entry.act s released) busy))
            | inr free ↦ (let before = kept was in
                let found = any_found (λ (e : DoorEntry). claims who uuid e.act) history before.1 in
                (followed_more (λ (e : DoorEntry). claims who uuid e.act) (λ (e : DoorEntry). not (releases who uuid e.act)) history entry before.0 (ap not free), any_from (λ (e : DoorEntry). claims who uuid e.act) found.0 (history ++ entry ∷ []) (in_front found.0 history (entry ∷ []) found.1) found.2))
          ]
          | inr idle ↦ absurd (true≢false (subst (λ (t : Stage). IsFalse (is_idle t)) (ap (λ (t : Stage). stage_after who uuid t entry.act) idle ∙ idle_stays entry.act none) busy))
        ]
      ]

  kept_from : (before entries : List DoorEntry) → (Busy (stage who uuid before) → Kept before) → Busy (stage who uuid (before ++ entries)) → Kept (before ++ entries)
  kept_from before [] kept busy = subst Kept (sym (append-nil before)) (kept (subst (λ (h : List DoorEntry). Busy (stage who uuid h)) (append-nil before) busy))
  kept_from before (entry ∷ entries) kept busy =
      subst Kept (append_assoc before (entry ∷ []) entries)
      (kept_from (before ++ entry ∷ []) entries (λ now. kept_next before entry (stage who uuid before) kept (subst Busy (stage-snoc before entry) now)) (subst (λ (h : List DoorEntry). Busy (stage who uuid h)) (sym (append_assoc before (entry ∷ []) entries)) busy))

  pub busy_kept : (history : List DoorEntry) → Busy (stage who uuid history) → Kept history
  busy_kept history busy = kept_from [] history (λ idle. absurd (true≢false idle)) busy

  -- ---- who is up and busy holds it

  turn_of : (history : List DoorEntry) → Legal history → Turn who uuid history
  turn_of history legal = each_after_kept may_follow (Turn who uuid) (λ h entry sofar rule t. turn_after who uuid h t entry (by_rule h entry rule).1) [] history legal (turn_at_first who uuid)

  held_if_up : (history : List DoorEntry) (c : Option Incarnation) → IsTrue (is_held_by who c) → IsTrue (is_up who history) → IsTrue (is_held_by who (if_up history c))
  held_if_up history None held up = held
  held_if_up history (Some other) held up =
      subst (λ (b : Bool). IsTrue (is_held_by who (if b then Some other else None))) (sym (subst (λ (i : Incarnation). IsTrue (is_up i history)) (same_who who other held) up)) held

  pub busy_holds : (history : List DoorEntry) → Legal history → IsTrue (is_up who history) → Busy (stage who uuid history) → IsTrue (holds who uuid history)
  busy_holds history legal up busy = held_if_up history (claimant uuid history) ((turn_of history legal).held (busy_kept history busy).0 up) up

  pub busy_uuid : (history : List DoorEntry) → HasBytes history → Busy (stage who uuid history) → IsTrue (is_uuid uuid)
  busy_uuid history bytes busy =
      let found = any_found (λ (e : DoorEntry). claims who uuid e.act) history (busy_kept history busy).1 in
      named found.0.act found.2 (all_at (λ (e : DoorEntry). acts_bytes e.act) found.0 history found.1 bytes)
    where
      named : (act : DoorAct) → IsTrue (claims who uuid act) → IsTrue (acts_bytes act) → IsTrue (is_uuid uuid)
      named (doors.Claim claimed node inc) claimed_it has = subst (λ (u : List ℕ). IsTrue (is_uuid u)) (sym (same_bytes uuid claimed (and_parts (same_incarnation who (incarnation node inc)) (bytes_eq uuid claimed) claimed_it).1)) has
      named act claimed_it has = absurd (false≢true claimed_it)

  -- ---- whose claim stands is busy

  stands_next : (act : DoorAct) (h : Option Incarnation) (s : Stage) → (IsTrue (is_held_by who h) → Busy s) → IsTrue (is_held_by who (claimant_after uuid h act)) → Busy (stage_after who uuid s act)
  stands_next (doors.Claim claimed node inc) h s before held = cases (bytes_eq uuid claimed) refl held
    where
      cases : (b : Bool) → bytes_eq uuid claimed ≡ b → IsTrue (is_held_by who (if b then Some (incarnation node inc) else h)) → Busy (if same_incarnation who (incarnation node inc) && bytes_eq uuid claimed then HasClaimed else s)
      cases true same mine = subst (λ (b : Bool). Busy (if b then HasClaimed else s)) (sym (and_from (same_incarnation who (incarnation node inc)) (bytes_eq uuid claimed) mine same)) refl
      cases false other mine = busy_either (same_incarnation who (incarnation node inc) && bytes_eq uuid claimed) HasClaimed s refl (before mine)
  stands_next (doors.Release released node inc) h s before held = elim (cases_Bool (same_incarnation who (incarnation node inc) && bytes_eq uuid released)) [
    | inl own ↦ absurd (gone own)
    | inr other ↦ subst (λ (b : Bool). Busy (if b then IsIdle else s)) (sym other) (before (still (bytes_eq uuid released && is_held_by (incarnation node inc) h) held))
  ]
    where
      still : (b : Bool) → IsTrue (is_held_by who (if b then None else h)) → IsTrue (is_held_by who h)
      still true never = absurd (false≢true never)
      still false is = is

      gone : IsTrue (same_incarnation who (incarnation node inc) && bytes_eq uuid released) → ⊥
      gone own =
          let parts = and_parts (same_incarnation who (incarnation node inc)) (bytes_eq uuid released) own in
          let was = still (bytes_eq uuid released && is_held_by (incarnation node inc) h) held in
          let its = subst (λ (i : Incarnation). IsTrue (is_held_by i h)) (same_who who (incarnation node inc) parts.0) was in
          false≢true (subst (λ (b : Bool). IsTrue (is_held_by who (if b then None else h))) (and_from (bytes_eq uuid released) (is_held_by (incarnation node inc) h) parts.1 its) held)
  stands_next (doors.Call node inc asked answer) h s before held = busy_either (same_incarnation who (incarnation node inc)) (stage_after_call uuid s asked answer) s (busy_call uuid asked answer s (before held)) (before held)
  stands_next act h s before held = before held

  stands_from : (before entries : List DoorEntry) → (IsTrue (is_held_by who (claimant uuid before)) → Busy (stage who uuid before)) → IsTrue (is_held_by who (claimant uuid (before ++ entries))) → Busy (stage who uuid (before ++ entries))
  stands_from before [] so held = subst (λ (h : List DoorEntry). Busy (stage who uuid h)) (sym (append-nil before)) (so (subst (λ (h : List DoorEntry). IsTrue (is_held_by who (claimant uuid h))) (append-nil before) held))
  stands_from before (entry ∷ entries) so held =
      subst (λ (h : List DoorEntry). Busy (stage who uuid h)) (append_assoc before (entry ∷ []) entries)
      (stands_from (before ++ entry ∷ []) entries
      (λ now. subst Busy (sym (stage-snoc before entry)) (stands_next entry.act (claimant uuid before) (stage who uuid before) so (subst (λ (h : Option Incarnation). IsTrue (is_held_by who h)) (claimant-snoc uuid before entry) now)))
      (subst (λ (h : List DoorEntry). IsTrue (is_held_by who (claimant uuid h))) (sym (append_assoc before (entry ∷ []) entries)) held))

  pub claimed_busy : (history : List DoorEntry) → IsTrue (is_held_by who (claimant uuid history)) → Busy (stage who uuid history)
  claimed_busy history held = stands_from [] history (λ none. absurd (false≢true none)) held
