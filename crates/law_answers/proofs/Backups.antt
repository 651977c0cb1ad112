-- What a copy is answered: its counts, or why it isn't whole; or that it didn't begin.
use Rattle.std.proofs.Common.{◌≡◌, ◌≤◌, ◌++◌, ◌+◌, ℕ, Bool, true, false, eqb, ◌&&◌, ◌||◌, not, List, [], ◌∷◌, length, map, refl, sym, ap, subst, ◌∙◌, inl, inr, arith, length-append}
use Rattle.std.specs.Prelude.{IsTrue, Option, Some, None, if◌then◌else◌, nat_lt}
use Rattle.std.specs.List.{flat_map, list_any}
use Rattle.std.specs.Str.{bytes_eq}
use Rattle.std.proofs.lemmas.List.Concat.{flat_map-append}
use Rattle.std.proofs.lemmas.Bool.{and_parts, eqb-true, false≢true, le-ltb, or_cases, or_from, or_left}
use Rattle.aft_id.specs.TxnId.{same_id}
use Rattle.aft_keeper.specs.declared.keeper.KeeperAnswer.{KeeperAnswer}
use Rattle.aft_keeper.specs.declared.keeper.KeeperAnswer.TheVariants as answers
use Rattle.aft_keeper.specs.declared.keeper.KeeperCall.TheVariants as calls
use Rattle.aft_keeper.specs.declared.keeper.Pair.{Pair}
use Rattle.aft_records.specs.declared.stored.Version.{Version}
use Rattle.aft_model.specs.declared.caller.By.{By}
use Rattle.aft_model.specs.declared.door.DoorAct.TheVariants.{Call, Fence, Up}
use Rattle.aft_model.specs.declared.door.DoorEntry.{DoorEntry}
use Rattle.aft_model.specs.declared.office.OfficeEntry.{OfficeEntry}
use Rattle.aft_model.specs.declared.reply.Reply.{Reply}
use Rattle.aft_model.specs.declared.reply.Reply.TheVariants as replies
use Rattle.aft_model.specs.declared.script.Command.TheVariants.{Backup}
use Rattle.aft_model.specs.History.{first_of}
use Rattle.aft_model.specs.Membership.{Incarnation, incarnation, same_incarnation}
use Rattle.aft_model.specs.Opening.{has_failed, is_failure}
use Rattle.aft_model.specs.Readings.{has_reading, is_version_at, markers_in, records_in, version_name, versions_in}
use Rattle.aft_model.specs.Sound.{markers_prefix, records_prefix}
use Rattle.aft_model.proofs.Sights.{same_bytes}
use Rattle.aft_lines.specs.BackupCourse.{Copier, Copy, Got, backup_course, behind_markers, copied_markers, copied_records, copies, copy_course, copy_of_line, fence_course, finds_copy, is_next_copier, names_to_copy, stopped_copy, taken_commits, tells_copy}
use Rattle.aft_lines.specs.Causes.{ExactlyCaused, cause}
use Rattle.aft_lines.specs.CausesScans.{damage_in, listed_in, unfound_in}
use Rattle.aft_lines.specs.CourseWords.{Ends, ends_at_office}
use Rattle.aft_lines.specs.LineView.{LineView, door_entry_in, ends_of, found_service}
use Rattle.aft_lines.specs.OrphanCourse.{VersionAt}
use Rattle.aft_lines.specs.ScanCourse.{Scanned, copy_limit, names_limit}
use Rattle.aft_lines.specs.Turns.{AtDoor, AtNode, AtOffice, Turn}
use Rattle.law_answers.specs.Courses.{keeps_its_course}
use Rattle.law_answers.proofs.Faults.{damage_told, failed_so, many_told, otherwise_told, told_faults}
use Rattle.law_answers.proofs.Scans.{Fair, Run, entries, run_of}
use Rattle.law_answers.proofs.Served.{never_served}
use Rattle.law_answers.proofs.Settled.{Settles, by_turns, with_turns}

-- ---- what entries show a copy

-- the names of the damage that they show it, and of the versions that it missed
abbrev pub spoiled : List DoorEntry → List (List ℕ)
spoiled done = flat_map (λ (entry : DoorEntry). damage_in None entry ++ unfound_in entry.act) done

abbrev pub shown_of : List ℕ → List DoorEntry → List Pair
shown_of prefix done = flat_map (λ (entry : DoorEntry). listed_in prefix entry.act) done

-- entries that tell of no fault, where they are whole or a call of them failed, with at most so many names of records and of markers
pub record Clean (whole : Bool) (done : List DoorEntry) (records markers : ℕ) : Type 0 where
  pub unspoiled : IsTrue (whole || has_failed done) → spoiled done ≡ []
  pub few_records : IsTrue (whole || has_failed done) → length (shown_of records_prefix done) ≤ records
  pub few_markers : IsTrue (whole || has_failed done) → length (shown_of markers_prefix done) ≤ markers
  pub unfailed : IsTrue whole → has_failed done ≡ false

pub failed_before : (some more : List DoorEntry) → has_failed some ≡ false → has_failed (some ++ more) ≡ has_failed more
failed_before [] more none = refl
failed_before (e ∷ some) more none = cases (is_failure e.act) none (failed_before some more)
  where
    cases : (fails : Bool) → (fails || has_failed some) ≡ false → (has_failed some ≡ false → has_failed (some ++ more) ≡ has_failed more) → (fails || has_failed (some ++ more)) ≡ has_failed more
    cases true is rest = absurd (false≢true (sym is))
    cases false is rest = rest is

pub failed_behind : (some more : List DoorEntry) → has_failed more ≡ false → has_failed (some ++ more) ≡ has_failed some
failed_behind [] more none = none
failed_behind (e ∷ some) more none = ap (λ (b : Bool). is_failure e.act || b) (failed_behind some more none)

module _ (some more : List DoorEntry) (records markers records' markers' : ℕ) where
  spoiled_both : spoiled some ≡ [] → spoiled more ≡ [] → spoiled (some ++ more) ≡ []
  spoiled_both a b = flat_map-append (λ (entry : DoorEntry). damage_in None entry ++ unfound_in entry.act) some more ∙ ap (λ (ns : List (List ℕ)). ns ++ spoiled more) a ∙ b

  few_both : (prefix : List ℕ) (n n' : ℕ) → length (shown_of prefix some) ≤ n → length (shown_of prefix more) ≤ n' → length (shown_of prefix (some ++ more)) ≤ n + n'
  few_both prefix n n' a b =
      let e : length (shown_of prefix (some ++ more)) ≡ length (shown_of prefix some ++ shown_of prefix more) = ap length (flat_map-append (λ (entry : DoorEntry). listed_in prefix entry.act) some more) in
      let l : length (shown_of prefix some ++ shown_of prefix more) ≡ length (shown_of prefix some) + length (shown_of prefix more) = length-append (shown_of prefix some) (shown_of prefix more) in
      omega arith

  -- more behind what was whole
  pub behind_whole : (whole : Bool) → Clean true some records markers → Clean whole more records' markers' → Clean whole (some ++ more) (records + records') (markers + markers')
  behind_whole whole a b =
      let so : IsTrue (whole || has_failed (some ++ more)) → IsTrue (whole || has_failed more) = λ is. subst (λ (f : Bool). IsTrue (whole || f)) (failed_before some more (a.unfailed refl)) is in
      record {
        unspoiled = λ is. spoiled_both (a.unspoiled refl) (b.unspoiled (so is));
        few_records = λ is. few_both records_prefix records records' (a.few_records refl) (b.few_records (so is));
        few_markers = λ is. few_both markers_prefix markers markers' (a.few_markers refl) (b.few_markers (so is));
        unfailed = λ is. failed_before some more (a.unfailed refl) ∙ b.unfailed is;
      }

  -- something before what is whole
  pub before_whole : (whole : Bool) → Clean whole some records markers → Clean true more records' markers' → Clean whole (some ++ more) (records + records') (markers + markers')
  before_whole whole a b =
      let so : IsTrue (whole || has_failed (some ++ more)) → IsTrue (whole || has_failed some) = λ is. subst (λ (f : Bool). IsTrue (whole || f)) (failed_behind some more (b.unfailed refl)) is in
      record {
        unspoiled = λ is. spoiled_both (a.unspoiled (so is)) (b.unspoiled refl);
        few_records = λ is. few_both records_prefix records records' (a.few_records (so is)) (b.few_records refl);
        few_markers = λ is. few_both markers_prefix markers markers' (a.few_markers (so is)) (b.few_markers refl);
        unfailed = λ is. failed_behind some more (b.unfailed refl) ∙ a.unfailed is;
      }

-- ---- the scan runs

pub no_parts : {A : Type 0} (xs ys : List A) → xs ++ ys ≡ [] → (xs ≡ []) × (ys ≡ [])
no_parts [] ys none = (refl, none)
no_parts (x ∷ xs) ys none = absurd (cc none)

unspoiled_so : (done : List DoorEntry) → flat_map (damage_in None) done ≡ [] → flat_map (λ (entry : DoorEntry). unfound_in entry.act) done ≡ [] → spoiled done ≡ []
unspoiled_so [] a b = refl
unspoiled_so (e ∷ done) a b =
    let x = no_parts (damage_in None e) (flat_map (damage_in None) done) a in
    let y = no_parts (unfound_in e.act) (flat_map (λ (entry : DoorEntry). unfound_in entry.act) done) b in
    ap (λ (ns : List (List ℕ)). (ns ++ unfound_in e.act) ++ spoiled done) x.0 ∙ ap (λ (ns : List (List ℕ)). ns ++ spoiled done) y.0 ∙ unspoiled_so done x.1 y.1

module _ (by : By) (who : Incarnation) (line : List Turn) (run : Scanned) where
  pub records_clean : (most : ℕ) (its : Run (record { most = most; judges = true }) by who records_prefix [] [] line run) → Clean run.is_whole (entries by its.made) most 0
  records_clean most its = record {
    unspoiled = λ is. unspoiled_so (entries by its.made) (its.fair refl is) its.found;
    few_records = λ is. (let few : 0 + length (shown_of records_prefix (entries by its.made)) ≤ most = its.few is in omega arith);
    few_markers = λ is. (let none : length (shown_of markers_prefix (entries by its.made)) ≡ 0 = ap length (its.others markers_prefix refl) in omega arith);
    unfailed = its.unfailed;
  }

  pub markers_clean : (its : Run names_limit by who markers_prefix [] [] line run) → Clean run.is_whole (entries by its.made) 0 20000
  markers_clean its = record {
    unspoiled = λ is. unspoiled_so (entries by its.made) (its.fair refl is) its.found;
    few_records = λ is. (let none : length (shown_of records_prefix (entries by its.made)) ≡ 0 = ap length (its.others records_prefix refl) in omega arith);
    few_markers = λ is. (let few : 0 + length (shown_of markers_prefix (entries by its.made)) ≤ 20000 = its.few is in omega arith);
    unfailed = its.unfailed;
  }

-- ---- the gets

record Gots (by : By) (line : List Turn) (got : Got) : Type 0 where
  made : List Turn
  splits : line ≡ made ++ got.behind
  clean : Clean got.is_whole (entries by made) 0 0

nothing_clean : (whole : Bool) → Clean whole [] 0 0
nothing_clean whole = record { unspoiled = λ is. refl; few_records = λ is. omega arith; few_markers = λ is. omega arith; unfailed = λ is. refl }

-- a version that was found has a reading
version_read : (key : List ℕ) (one : VersionAt) (pair : Pair) → IsTrue (is_version_at one.key one.id pair) → has_reading pair ≡ false → ⊥
version_read key one pair is e = some (versions_in pair) is (none (records_in pair) (markers_in pair) (versions_in pair) e)
  where
    some : (versions : List Version) → IsTrue (list_any (λ v. bytes_eq one.key v.key && same_id one.id v.id) versions) → length versions ≡ 0 → ⊥
    some [] there none = false≢true there
    some (v ∷ versions) there none = omega arith

    none : {A B C : Type 0} (xs : List A) (ys : List B) (zs : List C) → not (eqb (length xs + length ys + length zs) 0) ≡ false → length zs ≡ 0
    none xs ys zs is = cases (eqb (length xs + length ys + length zs) 0) refl is
      where
        cases : (b : Bool) → eqb (length xs + length ys + length zs) 0 ≡ b → not b ≡ false → length zs ≡ 0
        cases true so is = (let sum : length xs + length ys + length zs ≡ 0 = eqb-true (length xs + length ys + length zs) 0 so in omega arith)
        cases false so is = absurd (false≢true (sym is))

module _ (by : By) (who : Incarnation) (one : VersionAt) (place node inc : ℕ) (name : List ℕ) where
  abbrev get_of : KeeperAnswer → Turn
  get_of answer = AtDoor place (Call node inc (calls.Get name) answer)

  -- a get that found its version
  found_clean : (answer : KeeperAnswer) → version_name one.key one.id ≡ name → IsTrue (finds_copy one answer) → Clean true (entries by (get_of answer ∷ [])) 0 0
  found_clean (answers.Found bytes) same is = record {
    unspoiled = λ its. undamaged (has_reading (record { name = name; bytes = bytes })) refl;
    few_records = λ its. omega arith;
    few_markers = λ its. omega arith;
    unfailed = λ its. refl;
  }
    where
      read : IsTrue (is_version_at one.key one.id (record { name = name; bytes = bytes }))
      read = subst (λ (n : List ℕ). IsTrue (is_version_at one.key one.id (record { name = n; bytes = bytes }))) same
          (elim (or_cases (is_version_at one.key one.id (record { name = version_name one.key one.id; bytes = bytes })) false is) [ inl there ↦ there | inr none ↦ absurd (false≢true none) ])

      undamaged : (has : Bool) → has_reading (record { name = name; bytes = bytes }) ≡ has → (map (λ (p : Pair). p.name) (if not has || false then record { name = name; bytes = bytes } ∷ [] else []) ++ []) ++ [] ≡ []
      undamaged true e = refl
      undamaged false e = absurd (version_read one.key one (record { name = name; bytes = bytes }) read e)
  found_clean answer same is = absurd (false≢true is)

  -- one that didn't
  unfound_clean : (answer : KeeperAnswer) → Clean false (entries by (get_of answer ∷ [])) 0 0
  unfound_clean answers.Failed = record { unspoiled = λ is. refl; few_records = λ is. omega arith; few_markers = λ is. omega arith; unfailed = λ is. absurd (false≢true is) }
  unfound_clean answer = record { unspoiled = λ is. absurd (false≢true is); few_records = λ is. absurd (false≢true is); few_markers = λ is. absurd (false≢true is); unfailed = λ is. absurd (false≢true is) }

  one_got : (answer : KeeperAnswer) (line : List Turn) (rest : Got) → Gots by line rest → (own : Bool) → (same_incarnation who (incarnation node inc) && bytes_eq (version_name one.key one.id) name) ≡ own → (finds : Bool) → finds_copy one answer ≡ finds
      → Gots by (get_of answer ∷ line) (if own then (if finds then rest else record { is_whole = false; behind = line }) else record { is_whole = false; behind = get_of answer ∷ line })
  one_got answer line rest its false own finds e = record { made = []; splits = refl; clean = nothing_clean false }
  one_got answer line rest its true own false e = record { made = get_of answer ∷ []; splits = refl; clean = unfound_clean answer }
  one_got answer line rest its true own true e = record {
    made = get_of answer ∷ its.made;
    splits = ap (λ (l : List Turn). get_of answer ∷ l) its.splits;
    clean = behind_whole (entries by (get_of answer ∷ [])) (entries by its.made) 0 0 0 0 rest.is_whole (found_clean answer (same_bytes (version_name one.key one.id) name (and_parts (same_incarnation who (incarnation node inc)) (bytes_eq (version_name one.key one.id) name) own).1) e) its.clean;
  }

gots : (by : By) (who : Incarnation) (works : List VersionAt) (line : List Turn) → Gots by line (copies who works line)
gots by who [] line = record { made = []; splits = refl; clean = nothing_clean true }
gots by who (one ∷ more) (AtDoor place (Call node inc (calls.Get name) answer) ∷ line) =
    one_got by who one place node inc name answer line (copies who more line) (gots by who more line) (same_incarnation who (incarnation node inc) && bytes_eq (version_name one.key one.id) name) refl (finds_copy one answer) refl
gots by who (one ∷ more) line = record { made = []; splits = refl; clean = nothing_clean false }

-- ---- a copy that came up

fenced_clean : (by : By) (who : Incarnation) (whole : Bool) (behind : List Turn) → IsTrue (fence_course who whole behind) → Clean true (entries by behind) 0 0
fenced_clean by who whole (AtDoor place (Fence node inc) ∷ line) follows = at_end line (and_parts (same_incarnation who (incarnation node inc)) _ follows).1
  where
    at_end : (line : List Turn) → IsTrue (ends_at_office (tells_copy whole) line) → Clean true (record { by = by; act = Fence node inc } ∷ entries by line) 0 0
    at_end (AtOffice before entry ∷ []) ends = record { unspoiled = λ is. refl; few_records = λ is. omega arith; few_markers = λ is. omega arith; unfailed = λ is. refl }
    at_end (AtOffice before entry ∷ turn ∷ line) ends = absurd (false≢true ends)
    at_end (AtDoor place act ∷ line) ends = absurd (false≢true ends)
    at_end (AtNode at before entry ∷ line) ends = absurd (false≢true ends)
    at_end [] ends = absurd (false≢true ends)
fenced_clean by who whole line follows = absurd (false≢true follows)

pub entries_of : (by : By) (line made behind : List Turn) → line ≡ made ++ behind → entries by line ≡ entries by made ++ entries by behind
entries_of by line made behind splits = ap (λ (l : List Turn). entries by l) splits ∙ flat_map-append (door_entry_in by) made behind

pub loosened : (whole : Bool) (done : List DoorEntry) (records markers records' markers' : ℕ) → records ≤ records' → markers ≤ markers' → Clean whole done records markers → Clean whole done records' markers'
loosened whole done records markers records' markers' r m clean = record {
  unspoiled = clean.unspoiled;
  few_records = λ is. (let few = clean.few_records is in omega arith);
  few_markers = λ is. (let few = clean.few_markers is in omega arith);
  unfailed = clean.unfailed;
}

module _ (by : By) (ends : Ends) (own : Copier) (line : List Turn) where
  abbrev shown : Scanned
  shown = copied_records own line

  abbrev marked : Scanned
  marked = copied_markers own line

  abbrev works : List VersionAt
  works = names_to_copy (taken_commits ends own line)

  abbrev copy_by : Bool → Bool → Copy
  copy_by r m = if not r then stopped_copy shown.behind else if not m then stopped_copy marked.behind else behind_markers ends own line

  by_scans : (r : Bool) → shown.is_whole ≡ r → (m : Bool) → marked.is_whole ≡ m → IsTrue (fence_course own.who (copy_by r m).is_whole (copy_by r m).behind) → Clean (copy_by r m).is_whole (entries by line) 4000 20000
  by_scans false e m f follows =
      let first = run_of copy_limit by own.who records_prefix [] [] line (omega arith) in
      let last = fenced_clean by own.who false shown.behind follows in
      subst (λ (es : List DoorEntry). Clean false es 4000 20000) (sym (entries_of by line first.made shown.behind first.splits))
      (loosened false (entries by first.made ++ entries by shown.behind) 4000 0 4000 20000 (omega arith) (omega arith)
      (before_whole (entries by first.made) (entries by shown.behind) 4000 0 0 0 false (subst (λ (w : Bool). Clean w (entries by first.made) 4000 0) e (records_clean by own.who line shown 4000 first)) last))
  by_scans true e false f follows =
      let first = run_of copy_limit by own.who records_prefix [] [] line (omega arith) in
      let second = run_of names_limit by own.who markers_prefix [] [] shown.behind (omega arith) in
      let last = fenced_clean by own.who false marked.behind follows in
      let rest : Clean false (entries by shown.behind) 0 20000 =
      subst (λ (es : List DoorEntry). Clean false es 0 20000) (sym (entries_of by shown.behind second.made marked.behind second.splits))
      (before_whole (entries by second.made) (entries by marked.behind) 0 20000 0 0 false (subst (λ (w : Bool). Clean w (entries by second.made) 0 20000) f (markers_clean by own.who shown.behind marked second)) last) in
      subst (λ (es : List DoorEntry). Clean false es 4000 20000) (sym (entries_of by line first.made shown.behind first.splits))
      (behind_whole (entries by first.made) (entries by shown.behind) 4000 0 0 20000 false (subst (λ (w : Bool). Clean w (entries by first.made) 4000 0) e (records_clean by own.who line shown 4000 first)) rest)
  by_scans true e true f follows =
      let first = run_of copy_limit by own.who records_prefix [] [] line (omega arith) in
      let second = run_of names_limit by own.who markers_prefix [] [] shown.behind (omega arith) in
      let third = gots by own.who works marked.behind in
      let got : Got = copies own.who works marked.behind in
      let last = fenced_clean by own.who got.is_whole got.behind follows in
      let gets : Clean got.is_whole (entries by marked.behind) 0 0 =
      subst (λ (es : List DoorEntry). Clean got.is_whole es 0 0) (sym (entries_of by marked.behind third.made got.behind third.splits))
      (before_whole (entries by third.made) (entries by got.behind) 0 0 0 0 got.is_whole third.clean last) in
      let rest : Clean got.is_whole (entries by shown.behind) 0 20000 =
      subst (λ (es : List DoorEntry). Clean got.is_whole es 0 20000) (sym (entries_of by shown.behind second.made marked.behind second.splits))
      (behind_whole (entries by second.made) (entries by marked.behind) 0 20000 0 0 got.is_whole (subst (λ (w : Bool). Clean w (entries by second.made) 0 20000) f (markers_clean by own.who shown.behind marked second)) gets) in
      subst (λ (es : List DoorEntry). Clean got.is_whole es 4000 20000) (sym (entries_of by line first.made shown.behind first.splits))
      (behind_whole (entries by first.made) (entries by shown.behind) 4000 0 0 20000 got.is_whole (subst (λ (w : Bool). Clean w (entries by first.made) 4000 0) e (records_clean by own.who line shown 4000 first)) rest)

  copy_clean : IsTrue (copy_course ends own line) → Clean (copy_of_line ends own line).is_whole (entries by line) 4000 20000
  copy_clean follows = by_scans shown.is_whole refl marked.is_whole refl follows

-- ---- any copy

module _ (view : LineView) (place node inc : ℕ) (line : List Turn) where
  abbrev here : LineView
  here = with_turns view Backup (AtDoor place (Up node inc) ∷ line)

  abbrev copy : Copy
  copy = copy_of_line (ends_of here) (record { who = incarnation node inc; place = place }) line

  abbrev done : List DoorEntry
  done = entries view.by line

  abbrev many : Bool
  many = nat_lt 4000 (length (shown_of records_prefix done)) || nat_lt 20000 (length (shown_of markers_prefix done))

  abbrev counted : Option Reply
  counted = Some (replies.Copied (length copy.taken) copy.marked)

  abbrev told : Option Reply
  told = told_faults (has_failed done) many (first_of (spoiled done)) counted

  module _ (clean : Clean copy.is_whole done 4000 20000) where
    fair : Fair (has_failed done) copy.is_whole many (spoiled done)
    fair = record {
      unspoiled = clean.unspoiled;
      few = λ is. or_from _ _ (le-ltb 4000 (length (shown_of records_prefix done)) (clean.few_records is)) (le-ltb 20000 (length (shown_of markers_prefix done)) (clean.few_markers is));
      unfailed = clean.unfailed;
    }

    copy_settles : Settles here told
    copy_settles (replies.Copied taken marks) caused =
        let a = and_parts (copy.is_whole && eqb taken (length copy.taken)) (eqb marks copy.marked) caused in
        let b = and_parts copy.is_whole (eqb taken (length copy.taken)) a.0 in
        let t : taken ≡ length copy.taken = eqb-true taken (length copy.taken) b.1 in
        let m : marks ≡ copy.marked = eqb-true marks copy.marked a.1 in
        let same : Some (replies.Copied taken marks) ≡ counted = ap (λ (n : ℕ). Some (replies.Copied n marks)) t ∙ ap (λ (n : ℕ). Some (replies.Copied (length copy.taken) n)) m in
        inr (same ∙ otherwise_told (has_failed done) many (spoiled done) counted (fair.unfailed b.0) (fair.few (or_left _ _ b.0)) (ap first_of (fair.unspoiled (or_left _ _ b.0))))
    copy_settles replies.Copying caused = absurd (omega (arith, eqb-true (length (record { by = view.by; act = Up node inc } ∷ done)) 0 (and_parts (eqb (length (record { by = view.by; act = Up node inc } ∷ done)) 0) _ caused).0))
    copy_settles replies.StoreFault caused = inr (failed_so (has_failed done) many (first_of (spoiled done)) counted caused)
    copy_settles replies.TooManyRecords caused = inr (many_told (has_failed done) copy.is_whole many (spoiled done) fair counted caused)
    copy_settles (replies.Damaged name) caused = inr (damage_told (has_failed done) copy.is_whole many (spoiled done) fair counted name caused)
    copy_settles (replies.NodeDown which its) caused = inl refl
    copy_settles replies.Committing caused = absurd (never_served view.hold.attempt (found_service here) caused)
    copy_settles replies.NoMemory caused = inl refl
    copy_settles reply caused = absurd (false≢true caused)

alone_settles : (view : LineView) (before : List OfficeEntry) (entry : OfficeEntry) → Settles (with_turns view Backup (AtOffice before entry ∷ [])) (Some replies.Copying)
alone_settles view before entry replies.Copying caused = inr refl
alone_settles view before entry (replies.NodeDown which its) caused = inl refl
alone_settles view before entry replies.Committing caused = absurd (never_served view.hold.attempt None caused)
alone_settles view before entry replies.NoMemory caused = inl refl
alone_settles view before entry reply caused = absurd (false≢true caused)

backups_settle : (view : LineView) (turns : List Turn) → IsTrue (backup_course (ends_of (with_turns view Backup turns)) turns) → (answer : Option Reply) × Settles (with_turns view Backup turns) answer
backups_settle view (AtDoor place (Up node inc) ∷ line) follows =
    let ends : Ends = ends_of (with_turns view Backup (AtDoor place (Up node inc) ∷ line)) in
    (told view place node inc line, copy_settles view place node inc line (copy_clean view.by ends (record { who = incarnation node inc; place = place }) line (and_parts (is_next_copier ends place (incarnation node inc)) _ follows).1))
backups_settle view (AtOffice before entry ∷ []) follows = (Some replies.Copying, alone_settles view before entry)
backups_settle view (AtOffice before entry ∷ turn ∷ line) follows = absurd (false≢true follows)
backups_settle view line follows = absurd (false≢true follows)

pub backups_exact : (view : LineView) (reply : Reply) → view.command ≡ Backup → IsTrue (keeps_its_course view) → IsTrue (cause view reply) → ExactlyCaused view reply
backups_exact view reply e keeps caused = by_turns view Backup reply e keeps caused (λ turns follows. backups_settle view turns follows)
