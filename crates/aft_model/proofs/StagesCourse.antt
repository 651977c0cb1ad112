-- A history that keeps the stages keeps the course: who is clear to record has found no record since a claim that it hasn't released, and has put none since.
use Rattle.std.proofs.Common.{◌≡◌, ℕ, Bool, true, false, ◌&&◌, ◌||◌, not, List, [], ◌∷◌, ◌++◌, refl, sym, ap, subst, ◌∙◌, inl, inr, eqb, append_assoc, append-nil}
use Rattle.std.specs.Prelude.{IsTrue, IsFalse, if◌then◌else◌, filter}
use Rattle.std.specs.List.{fold, list_all, list_any}
use Rattle.std.specs.Str.{bytes_eq}
use Rattle.std.proofs.lemmas.Bool.{and_parts, and_from, or_cases, and_right, or_left, or_right, or_from, true≢false, false≢true}
use Rattle.std.proofs.lemmas.List.Sums.{fold-append}
use Rattle.aft_keeper.specs.declared.keeper.KeeperAnswer.{KeeperAnswer}
use Rattle.aft_keeper.specs.declared.keeper.KeeperAnswer.TheVariants.{Absent}
use Rattle.aft_keeper.specs.declared.keeper.KeeperCall.{KeeperCall}
use Rattle.aft_keeper.specs.declared.keeper.KeeperCall.TheVariants.{Get, Put, Delete}
use Rattle.aft_keeper.specs.declared.keeper.Pair.{Pair}
use Rattle.aft_records.specs.declared.stored.Commit.{Commit}
use Rattle.aft_records.specs.declared.stored.Version.{Version}
use Rattle.aft_records.specs.Commits.{has_uuid}
use Rattle.aft_model.specs.declared.caller.By.{By}
use Rattle.aft_model.specs.declared.door.DoorAct.{DoorAct}
use Rattle.aft_model.specs.declared.door.DoorAct.TheVariants.{Call, Claim, Release}
use Rattle.aft_model.specs.declared.door.DoorEntry.{DoorEntry}
use Rattle.aft_model.specs.Course.{KeepsCourse, is_due, none_is, puts_record, puts_when_due, releases}
use Rattle.aft_model.specs.DoorKnowledge.{claims, finds_absent}
use Rattle.aft_model.specs.History.{each_after, followed}
use Rattle.aft_model.specs.Membership.{Incarnation, incarnation, same_incarnation, the_office}
use Rattle.aft_model.specs.Readings.{marker_name, record_name, records_in}
use Rattle.aft_model.specs.Stages.{HasClaimed, HasPut, IsClear, IsClosed, IsIdle, IsUnrecorded, KeepsStages, Stage, commits_of, found_no_marker, found_no_record, has_deleted_marker, has_put_pair, has_put_record, has_stored_version, has_versions, is_clear, is_clear_to_record, is_in_stage, is_own, is_upgraded_alone, stage, stage_after, stage_after_call, versions_of}
use Rattle.aft_model.proofs.Growth.{all_implied}
use Rattle.aft_model.proofs.OneCommit.{same_who}
use Rattle.aft_model.proofs.Sights.{same_bytes, bytes_eq-refl}
use Rattle.aft_model.proofs.Turns.{all_snoc, followed_last, followed_more}

-- ---- lists

module _ {A : Type 0} (first good second fine : A → Bool) where
  -- some entry is the first, all behind it are good, and behind some second one all are fine
  abbrev Both : List A → Bool
  Both xs = followed first (λ since. list_all good since && followed second (list_all fine) since) xs

  both_more : (xs : List A) (x : A) → IsTrue (Both xs) → IsTrue (good x) → IsTrue (fine x) → IsTrue (Both (xs ++ x ∷ []))
  both_more [] x both g f = absurd (false≢true both)
  both_more (y ∷ ys) x both g f =
      elim (or_cases (first y && (list_all good ys && followed second (list_all fine) ys)) (Both ys) both) [
        | inl here ↦ (let parts = and_parts (first y) (list_all good ys && followed second (list_all fine) ys) here in
            let since = and_parts (list_all good ys) (followed second (list_all fine) ys) parts.1 in
            or_left _ _ (and_from _ _ parts.0 (and_from _ _ (all_snoc good ys x since.0 g) (followed_more second fine ys x since.1 f))))
        | inr later ↦ or_right _ _ (both_more ys x later g f)
      ]

  both_last : (xs : List A) (x : A) → IsTrue (followed first (list_all good) xs) → IsTrue (good x) → IsTrue (second x) → IsTrue (Both (xs ++ x ∷ []))
  both_last [] x kept g s = absurd (false≢true kept)
  both_last (y ∷ ys) x kept g s =
      elim (or_cases (first y && list_all good ys) (followed first (list_all good) ys) kept) [
        | inl here ↦ (let parts = and_parts (first y) (list_all good ys) here in
            or_left _ _ (and_from _ _ parts.0 (and_from _ _ (all_snoc good ys x parts.1 g) (followed_last second fine ys x s))))
        | inr later ↦ or_right _ _ (both_last ys x later g s)
      ]

  both_kept : (xs : List A) → IsTrue (Both xs) → IsTrue (followed first (list_all good) xs)
  both_kept [] both = both
  both_kept (y ∷ ys) both =
      elim (or_cases (first y && (list_all good ys && followed second (list_all fine) ys)) (Both ys) both) [
        | inl here ↦ (let parts = and_parts (first y) (list_all good ys && followed second (list_all fine) ys) here in
            or_left _ _ (and_from _ _ parts.0 (and_parts (list_all good ys) (followed second (list_all fine) ys) parts.1).0))
        | inr later ↦ or_right _ _ (both_kept ys later)
      ]

none_filtered : {A : Type 0} (test : A → Bool) (xs : List A) → filter test xs ≡ [] → IsFalse (list_any test xs)
none_filtered test [] none = refl
none_filtered {A} test (x ∷ xs) none = cases (none_filtered test xs) (test x) refl none
  where
    cases : (filter test xs ≡ [] → IsFalse (list_any test xs)) → (t : Bool) → test x ≡ t → (if t then x ∷ filter test xs else filter test xs) ≡ [] → IsFalse (test x || list_any test xs)
    cases rest true is none = absurd (cc)
    cases rest false is none = or_from _ _ is (rest none)

each_implied : {A : Type 0} (p q : List A → A → Bool) → ((history : List A) (x : A) → IsTrue (p history x) → IsTrue (q history x)) → (before xs : List A) → IsTrue (each_after p before xs) → IsTrue (each_after q before xs)
each_implied p q more before [] passed = refl
each_implied p q more before (x ∷ xs) passed =
    let parts = and_parts (p before x) (each_after p (before ++ x ∷ []) xs) passed in
    and_from _ _ (more before x parts.0) (each_implied p q more (before ++ x ∷ []) xs parts.1)

-- ---- one incarnation and one UUID

module _ (who : Incarnation) (uuid : List ℕ) where
  abbrev Kept : List DoorEntry → Type 0
  Kept history = IsTrue (followed (λ (e : DoorEntry). claims who uuid e.act) (none_is (releases who uuid)) history)

  abbrev Due : List DoorEntry → Type 0
  Due history = IsTrue (is_due who uuid history)

  -- what a stage says of the course
  abbrev Fits : Stage → List DoorEntry → Type 0
  Fits IsIdle history = Unit {0}
  Fits HasClaimed history = Kept history
  Fits IsUnrecorded history = Due history
  Fits (IsClear names) history = Due history
  Fits (HasPut c) history = Kept history
  Fits IsClosed history = Kept history

  due_kept : (history : List DoorEntry) → Due history → Kept history
  due_kept history due = both_kept (λ (e : DoorEntry). claims who uuid e.act) (λ (e : DoorEntry). not (releases who uuid e.act)) (λ (e : DoorEntry). finds_absent who (record_name uuid) e.act) (λ (e : DoorEntry). not (puts_record who uuid e.act)) history due

  module _ (history : List DoorEntry) (entry : DoorEntry) where
    abbrev After : Stage → Type 0
    After s = Fits s (history ++ entry ∷ [])

    kept_more : IsFalse (releases who uuid entry.act) → Kept history → Kept (history ++ entry ∷ [])
    kept_more free kept = followed_more (λ (e : DoorEntry). claims who uuid e.act) (λ (e : DoorEntry). not (releases who uuid e.act)) history entry kept (ap not free)

    due_more : IsFalse (releases who uuid entry.act) → IsFalse (puts_record who uuid entry.act) → Due history → Due (history ++ entry ∷ [])
    due_more free put due =
        both_more (λ (e : DoorEntry). claims who uuid e.act) (λ (e : DoorEntry). not (releases who uuid e.act)) (λ (e : DoorEntry). finds_absent who (record_name uuid) e.act) (λ (e : DoorEntry). not (puts_record who uuid e.act)) history entry due (ap not free) (ap not put)

    due_last : IsFalse (releases who uuid entry.act) → IsTrue (finds_absent who (record_name uuid) entry.act) → Kept history → Due (history ++ entry ∷ [])
    due_last free finds kept =
        both_last (λ (e : DoorEntry). claims who uuid e.act) (λ (e : DoorEntry). not (releases who uuid e.act)) (λ (e : DoorEntry). finds_absent who (record_name uuid) e.act) (λ (e : DoorEntry). not (puts_record who uuid e.act)) history entry kept (ap not free) finds

    -- a stage that stays
    rests : (s : Stage) → IsFalse (releases who uuid entry.act) → IsFalse (puts_record who uuid entry.act) → Fits s history → After s
    rests IsIdle free put fits = tt
    rests HasClaimed free put fits = kept_more free fits
    rests IsUnrecorded free put fits = due_more free put fits
    rests (IsClear names) free put fits = due_more free put fits
    rests (HasPut c) free put fits = kept_more free fits
    rests IsClosed free put fits = kept_more free fits

    no_record : (s : Stage) → IsFalse (releases who uuid entry.act) → IsFalse (puts_record who uuid entry.act) → IsTrue (finds_absent who (record_name uuid) entry.act) → Fits s history → After (found_no_record s)
    no_record IsIdle free put finds fits = tt
    no_record HasClaimed free put finds fits = due_last free finds fits
    no_record IsUnrecorded free put finds fits = due_more free put fits
    no_record (IsClear names) free put finds fits = due_more free put fits
    no_record (HasPut c) free put finds fits = due_last free finds fits
    no_record IsClosed free put finds fits = kept_more free fits

    no_marker : (s : Stage) → IsFalse (releases who uuid entry.act) → IsFalse (puts_record who uuid entry.act) → Fits s history → After (found_no_marker s)
    no_marker IsIdle free put fits = tt
    no_marker HasClaimed free put fits = kept_more free fits
    no_marker IsUnrecorded free put fits = due_more free put fits
    no_marker (IsClear names) free put fits = due_more free put fits
    no_marker (HasPut c) free put fits = kept_more free fits
    no_marker IsClosed free put fits = kept_more free fits

    deleted : (s : Stage) → IsFalse (releases who uuid entry.act) → Fits s history → After (has_deleted_marker s)
    deleted IsIdle free fits = tt
    deleted HasClaimed free fits = kept_more free fits
    deleted IsUnrecorded free fits = kept_more free (due_kept history fits)
    deleted (IsClear names) free fits = kept_more free (due_kept history fits)
    deleted (HasPut c) free fits = kept_more free fits
    deleted IsClosed free fits = kept_more free fits

    -- puts of versions leave what a stage says
    stored_versions : (name : List ℕ) (answer : KeeperAnswer) (vs : List Version) (s : Stage) → Fits s history → Fits (fold (λ (t : Stage) (v : Version). has_stored_version name answer t) s vs) history
    stored_versions name answer [] s fits = fits
    stored_versions name answer (v ∷ vs) s fits = stored_versions name answer vs (has_stored_version name answer s) (one s fits)
      where
        one : (s : Stage) → Fits s history → Fits (has_stored_version name answer s) history
        one IsIdle fits = fits
        one HasClaimed fits = fits
        one IsUnrecorded fits = fits
        one (IsClear names) fits = fits
        one (HasPut c) fits = fits
        one IsClosed fits = fits

    put_one : (c : Commit) (s : Stage) → IsFalse (releases who uuid entry.act) → Fits s history → After (has_put_record c s)
    put_one c IsIdle free fits = tt
    put_one c HasClaimed free fits = kept_more free fits
    put_one c IsUnrecorded free fits = kept_more free (due_kept history fits)
    put_one c (IsClear names) free fits = kept_more free (due_kept history fits)
    put_one c (HasPut d) free fits = kept_more free fits
    put_one c IsClosed free fits = kept_more free fits

    put_more : (c : Commit) (s : Stage) → After s → After (has_put_record c s)
    put_more c IsIdle fits = tt
    put_more c HasClaimed fits = fits
    put_more c IsUnrecorded fits = due_kept (history ++ entry ∷ []) fits
    put_more c (IsClear names) fits = due_kept (history ++ entry ∷ []) fits
    put_more c (HasPut d) fits = fits
    put_more c IsClosed fits = fits

    put_rest : (cs : List Commit) (s : Stage) → After s → After (fold (λ (t : Stage) (c : Commit). has_put_record c t) s cs)
    put_rest [] s fits = fits
    put_rest (c ∷ cs) s fits = put_rest cs (has_put_record c s) (put_more c s fits)

    put_all : (cs : List Commit) (s : Stage) → IsFalse (releases who uuid entry.act) → (cs ≡ [] → IsFalse (puts_record who uuid entry.act)) → Fits s history → After (fold (λ (t : Stage) (c : Commit). has_put_record c t) s cs)
    put_all [] s free none fits = rests s free (none refl) fits
    put_all (c ∷ cs) s free none fits = put_rest cs (has_put_record c s) (put_one c s free fits)

  -- ---- one more entry

  module _ (history : List DoorEntry) (by : By) (s : Stage) (fits : Fits s history) where
    abbrev entry_of : DoorAct → DoorEntry
    entry_of act = record { by = by; act = act }

    abbrev Next : DoorAct → Stage → Type 0
    Next act after = Fits after (history ++ entry_of act ∷ [])

    claimed_next : (claimed : List ℕ) (node inc : ℕ) (t : Bool) → is_own who uuid node inc claimed ≡ t → Next (Claim claimed node inc) (if t then HasClaimed else s)
    claimed_next claimed node inc true is = followed_last (λ (e : DoorEntry). claims who uuid e.act) (λ (e : DoorEntry). not (releases who uuid e.act)) history (entry_of (Claim claimed node inc)) is
    claimed_next claimed node inc false is = rests history (entry_of (Claim claimed node inc)) s refl refl fits

    released_next : (released : List ℕ) (node inc : ℕ) (t : Bool) → is_own who uuid node inc released ≡ t → Next (Release released node inc) (if t then IsIdle else s)
    released_next released node inc true is = tt
    released_next released node inc false is = rests history (entry_of (Release released node inc)) s is refl fits

    module _ (node inc : ℕ) where
      puts_other : (asked : KeeperCall) (answer : KeeperAnswer) → same_incarnation who (incarnation node inc) ≡ false → IsFalse (puts_record who uuid (Call node inc asked answer))
      puts_other (Put name bytes) answer other = ap (λ b. b && list_any (has_uuid uuid) (records_in (record { name = name; bytes = bytes }))) other
      puts_other asked answer other = refl

      marker_next : (name : List ℕ) (t : Bool) → Next (Call node inc (Get name) Absent) (if t then found_no_marker s else s)
      marker_next name true = no_marker history (entry_of (Call node inc (Get name) Absent)) s refl refl fits
      marker_next name false = rests history (entry_of (Call node inc (Get name) Absent)) s refl refl fits

      record_next : (name : List ℕ) → same_incarnation who (incarnation node inc) ≡ true → (t : Bool) → bytes_eq name (record_name uuid) ≡ t
          → Next (Call node inc (Get name) Absent) (if t then found_no_record s else if bytes_eq name (marker_name uuid) then found_no_marker s else s)
      record_next name mine true is =
          let found : IsTrue (bytes_eq (record_name uuid) name) = subst (λ n. IsTrue (bytes_eq (record_name uuid) n)) (sym (same_bytes name (record_name uuid) is)) (bytes_eq-refl (record_name uuid)) in
          no_record history (entry_of (Call node inc (Get name) Absent)) s refl refl (and_from _ _ mine found) fits
      record_next name mine false is = marker_next name (bytes_eq name (marker_name uuid))

      deleted_next : (name : List ℕ) (answer : KeeperAnswer) (t : Bool) → Next (Call node inc (Delete name) answer) (if t then has_deleted_marker s else s)
      deleted_next name answer true = deleted history (entry_of (Call node inc (Delete name) answer)) s refl fits
      deleted_next name answer false = rests history (entry_of (Call node inc (Delete name) answer)) s refl refl fits

      put_next : (name bytes : List ℕ) (answer : KeeperAnswer) → Next (Call node inc (Put name bytes) answer) (has_put_pair uuid (record { name = name; bytes = bytes }) answer s)
      put_next name bytes answer =
          let pair : Pair = record { name = name; bytes = bytes } in
          put_all history (entry_of (Call node inc (Put name bytes) answer)) (commits_of uuid pair) (fold (λ (t : Stage) (v : Version). has_stored_version name answer t) s (versions_of uuid pair)) refl
          (λ none. and_right (same_incarnation who (incarnation node inc)) _ (none_filtered (has_uuid uuid) (records_in pair) none))
          (stored_versions history (entry_of (Call node inc (Put name bytes) answer)) name answer (versions_of uuid pair) s fits)

      called_next : (asked : KeeperCall) (answer : KeeperAnswer) → same_incarnation who (incarnation node inc) ≡ true → Next (Call node inc asked answer) (stage_after_call uuid s asked answer)
      called_next (Get name) Absent mine = record_next name mine (bytes_eq name (record_name uuid)) refl
      called_next (Put name bytes) answer mine = put_next name bytes answer
      called_next (Delete name) answer mine = deleted_next name answer (bytes_eq name (marker_name uuid))
      called_next asked answer mine = rests history (entry_of (Call node inc asked answer)) s refl refl fits

      call_next : (asked : KeeperCall) (answer : KeeperAnswer) (t : Bool) → same_incarnation who (incarnation node inc) ≡ t → Next (Call node inc asked answer) (if t then stage_after_call uuid s asked answer else s)
      call_next asked answer true mine = called_next asked answer mine
      call_next asked answer false other = rests history (entry_of (Call node inc asked answer)) s refl (puts_other asked answer other) fits

    next : (act : DoorAct) → Next act (stage_after who uuid s act)
    next (Claim claimed node inc) = claimed_next claimed node inc _ refl
    next (Release released node inc) = released_next released node inc _ refl
    next (Call node inc asked answer) = call_next node inc asked answer _ refl
    next act = rests history (entry_of act) s refl refl fits

  fits_from : (before entries : List DoorEntry) → Fits (stage who uuid before) before → Fits (stage who uuid (before ++ entries)) (before ++ entries)
  fits_from before [] fits = subst (λ h. Fits (stage who uuid h) h) (sym (append-nil before)) fits
  fits_from before (entry ∷ entries) fits =
      let after : stage who uuid (before ++ entry ∷ []) ≡ stage_after who uuid (stage who uuid before) entry.act = fold-append (λ (t : Stage) (e : DoorEntry). stage_after who uuid t e.act) IsIdle before (entry ∷ []) in
      subst (λ h. Fits (stage who uuid h) h) (append_assoc before (entry ∷ []) entries)
      (fits_from (before ++ entry ∷ []) entries (subst (λ t. Fits t (before ++ entry ∷ [])) (sym after) (next before entry.by (stage who uuid before) fits entry.act)))

  clear_due : (test : List (List ℕ) → Bool) (s : Stage) (history : List DoorEntry) → IsTrue (is_clear test s) → Fits s history → Due history
  clear_due test (IsClear names) history clear fits = fits
  clear_due test s history clear fits = absurd (false≢true clear)

-- ---- each entry

in_stage_when_due : (history : List DoorEntry) (act : DoorAct) → IsTrue (is_in_stage history act) → IsTrue (puts_when_due history act)
in_stage_when_due history (Call node inc (Put name bytes) answer) legal = cases (eqb node 0) refl
  where
    who : Incarnation
    who = incarnation node inc

    due : eqb node 0 ≡ false → (c : Commit) → IsTrue (is_clear_to_record history who c || is_upgraded_alone history who) → IsTrue (is_due who c.id.uuid history)
    due at_node c clear =
        elim (or_cases (is_clear_to_record history who c) (is_upgraded_alone history who) clear) [
          | inl node_clear ↦ clear_due who c.id.uuid (has_versions c) (stage who c.id.uuid history) history (and_parts _ _ node_clear).1 (fits_from who c.id.uuid [] history tt)
          | inr upgrade ↦ absurd (true≢false (sym (ap (λ (i : Incarnation). eqb i.node 0) (sym (same_who the_office who (and_parts _ _ upgrade).0))) ∙ at_node))
        ]

    cases : (t : Bool) → eqb node 0 ≡ t → IsTrue (eqb node 0 || list_all (λ (c : Commit). is_due (incarnation node inc) c.id.uuid history) (records_in (record { name = name; bytes = bytes })))
    cases true office = or_left _ _ office
    cases false at_node =
        or_right _ _ (all_implied (λ (c : Commit). is_clear_to_record history who c || is_upgraded_alone history who) (λ (c : Commit). is_due who c.id.uuid history) (due at_node)
        (records_in (record { name = name; bytes = bytes })) (and_parts _ _ legal).1)
in_stage_when_due history act legal = refl

pub stages_keep_course : (history : List DoorEntry) → KeepsStages history → KeepsCourse history
stages_keep_course history keeps =
    each_implied (λ (before : List DoorEntry) (entry : DoorEntry). is_in_stage before entry.act) (λ (before : List DoorEntry) (entry : DoorEntry). puts_when_due before entry.act)
    (λ before entry. in_stage_when_due before entry.act) [] history keeps
