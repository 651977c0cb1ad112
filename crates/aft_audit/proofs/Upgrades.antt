-- The turns of an upgrade, commit by commit.
use Rattle.std.proofs.Common.{◌≡◌, ℕ, suc, ◌+◌, arith, Bool, true, false, not, ◌&&◌, ◌||◌, List, [], ◌∷◌, ◌++◌, length, length-append, refl, sym, ap, subst, ◌∙◌, append_assoc, append-nil}
use Rattle.std.specs.Prelude.{IsFalse, IsTrue, None, Option, Some, filter, if◌then◌else◌}
use Rattle.std.specs.List.{last_or, list_any}
use Rattle.std.specs.Cmp.Lexicographic.{pointwise}
use Rattle.std.specs.Str.{bytes_eq}
use Rattle.std.proofs.lemmas.Bool.{and_from, or_left, or_parts}
use Rattle.std.proofs.lemmas.List.Elements.{filter-append}
use Rattle.std.proofs.lemmas.List.Folds.{list_all-append}
use Rattle.aft_keeper.specs.declared.keeper.KeeperAnswer.{KeeperAnswer}
use Rattle.aft_keeper.specs.declared.keeper.KeeperAnswer.TheVariants.{Done, Failed}
use Rattle.aft_keeper.specs.declared.keeper.KeeperCall.TheVariants.{Get, Put}
use Rattle.aft_keeper.specs.declared.keeper.Pair.{Pair}
use Rattle.aft_records.specs.declared.stored.Commit.{Commit}
use Rattle.aft_records.specs.declared.stored.Record.{Record}
use Rattle.aft_records.specs.Commits.{is_among, same_commit}
use Rattle.aft_records.specs.Reading.{record_of}
use Rattle.aft_records.specs.Rows.{record_row}
use Rattle.aft_records.specs.Stored.{IsCommit}
use Rattle.aft_records.proofs.CommitOrder.{same_id-refl}
use Rattle.aft_records.proofs.Written.{record_written, timely_is}
use Rattle.aft_model.specs.declared.door.DoorEntry.{DoorEntry}
use Rattle.aft_model.specs.Opening.{has_failed, is_failure, opening}
use Rattle.aft_model.specs.Readings.{first_format_in, record_name, same_record, written_in}
use Rattle.aft_model.specs.ScanRun.{same_line}
use Rattle.aft_model.proofs.Sights.{bytes_eq-refl}
use Rattle.aft_door.specs.Entries.{called}
use Rattle.aft_door.proofs.Puts.{read_own, upgraded_is}
use Rattle.aft_lines.specs.CommitCourse.{is_written_as}
use Rattle.aft_lines.specs.CourseWords.{finds_record, found_pair, is_over}
use Rattle.aft_lines.specs.Turns.{AtDoor, Turn, door_turns}
use Rattle.aft_lines.specs.UpgradeCourse.{behind_upgrade_get, puts_upgraded, upgraded, upgrades}
use Rattle.aft_audit.specs.Audit.{opener}
use Rattle.aft_lines.specs.UpgradeTrace.{is_put}
use Rattle.aft_audit.specs.Upgrading.{HasPassed, HasStopped, StopsFor, are_ours, format_found, puts_in}
use Rattle.aft_audit.specs.declared.fault.AuditFault.{AuditFault}
use Rattle.aft_audit.specs.declared.fault.AuditFault.TheVariants.{Damaged, Memory, Store, TooMany}
use Rattle.aft_audit.specs.Versions.{found_answer}

-- turns at the door of one history behind another
pub turns_append : (place : ℕ) (xs ys : List DoorEntry) → door_turns opening place (xs ++ ys) ≡ door_turns opening place xs ++ door_turns opening (place + length xs) ys
turns_append place [] ys = ap (λ (n : ℕ). door_turns opening n ys) (let e : place ≡ place + 0 = omega arith in e)
turns_append place (x ∷ xs) ys =
    ap (λ (line : List Turn). (if same_line opening x.by then AtDoor place x.act ∷ [] else []) ++ line) (turns_append (suc place) xs ys ∙ ap (λ (n : ℕ). door_turns opening (suc place) xs ++ door_turns opening n ys) (let e : suc place + length xs ≡ place + length (x ∷ xs) = omega arith in e))
    ∙ sym (append_assoc (if same_line opening x.by then AtDoor place x.act ∷ [] else []) (door_turns opening (suc place) xs) (door_turns opening (place + length (x ∷ xs)) ys))

-- nothing left is the beginning of an upgrade
pub nothing_begins : (commits : List Commit) → IsTrue (upgrades false commits [])
nothing_begins [] = refl
nothing_begins (c ∷ commits) = refl

same_keys : (keys : List (List ℕ)) → pointwise bytes_eq keys keys ≡ true
same_keys [] = refl
same_keys (key ∷ keys) = and_from _ _ (bytes_eq-refl key) (same_keys keys)

-- a commit is the same as itself
pub commit_itself : (c : Commit) → IsTrue (same_commit c c)
commit_itself c = and_from _ _ (same_id-refl c.id) (same_keys c.keys)

one_passes : {A : Type 0} (test : A → Bool) (xs : List A) (x : A) → xs ≡ x ∷ [] → IsTrue (test x) → IsTrue (list_any test xs)
one_passes test xs x is passed = subst (λ (ys : List _). IsTrue (list_any test ys)) (sym is) (or_left _ _ passed)

module _ (c : Commit) (others : List Commit) where
  abbrev Name : List ℕ
  Name = record_name c.id.uuid

  abbrev is_first : Option (List ℕ) → Bool
  is_first found = list_any (λ (pair : Pair). is_among c (first_format_in pair)) (found_pair Name (found_answer found))

  abbrev get_of : Option (List ℕ) → DoorEntry
  get_of found = called opener (Get Name) (found_answer found)

  own_name : IsTrue (bytes_eq Name Name)
  own_name = bytes_eq-refl Name

  -- behind a get
  behind_get : (place : ℕ) (whole : Bool) (found : Option (List ℕ)) (line : List Turn) → upgrades whole (c ∷ others) (door_turns opening place (get_of found ∷ []) ++ line) ≡ behind_upgrade_get whole c (found_answer found) (upgrades whole others) line
  behind_get place whole found line = ap (λ (t : Bool). t && behind_upgrade_get whole c (found_answer found) (upgrades whole others) line) own_name

  -- a record of the second format is left
  pub second_passes : (place : ℕ) (whole : Bool) (found : Option (List ℕ)) (line : List Turn) → format_found c found ≡ Some false → upgrades whole (c ∷ others) (door_turns opening place (get_of found ∷ []) ++ line) ≡ upgrades whole others line
  second_passes place whole found line is = behind_get place whole found line ∙ cases (is_first found) (finds_record c (found_answer found)) is
    where
      cases : (first second : Bool) → (if first then Some true else if second then Some false else None) ≡ Some false
          → (if first then puts_upgraded whole c (upgrades whole others) line else if second then upgrades whole others line else not whole && is_over line) ≡ upgrades whole others line
      cases true second is' = absurd (cc)
      cases false true is' = refl
      cases false false is' = absurd (cc)

  first_is : (found : Option (List ℕ)) → format_found c found ≡ Some true → IsTrue (is_first found)
  first_is found is = cases (is_first found) (finds_record c (found_answer found)) is
    where
      cases : (first second : Bool) → (if first then Some true else if second then Some false else None) ≡ Some true → first ≡ true
      cases true second is' = refl
      cases false true is' = absurd (cc)
      cases false false is' = absurd (cc)

  -- the put that follows a get of the first format
  behind_first : (place : ℕ) (whole : Bool) (found : Option (List ℕ)) (line : List Turn) → format_found c found ≡ Some true → upgrades whole (c ∷ others) (door_turns opening place (get_of found ∷ []) ++ line) ≡ puts_upgraded whole c (upgrades whole others) line
  behind_first place whole found line is =
      behind_get place whole found line ∙ ap (λ (t : Bool). if t then puts_upgraded whole c (upgrades whole others) line else if finds_record c (found_answer found) then upgrades whole others line else not whole && is_over line) (first_is found is)

  abbrev pub put_of : KeeperAnswer → DoorEntry
  put_of answer = called opener (Put Name (record_row (upgraded c))) answer

  same_itself : IsTrue (same_record (upgraded c) (upgraded c))
  same_itself = and_from _ _ (and_from _ _ (and_from _ _ (commit_itself c) refl) refl) refl

  written_so : IsCommit c → IsTrue (is_written_as (upgraded c) (record { name = Name; bytes = record_row (upgraded c) }))
  written_so limits = one_passes (same_record (upgraded c)) (written_in (record { name = Name; bytes = record_row (upgraded c) })) (upgraded c)
      (read_own Name (λ (r : Record). record_name r.commit.id.uuid) (record_of (record_row (upgraded c))) (upgraded c) (let its = upgraded_is c limits in record_written (upgraded c) its.0 ∙ timely_is c.id.time (upgraded c) its.1) refl) same_itself

  -- behind the put of the second format the upgrade goes on
  pub first_passes : (place : ℕ) (whole : Bool) (found : Option (List ℕ)) (line : List Turn) → IsCommit c → format_found c found ≡ Some true
      → upgrades whole (c ∷ others) (door_turns opening place (get_of found ∷ put_of Done ∷ []) ++ line) ≡ upgrades whole others line
  first_passes place whole found line limits is =
      behind_first place whole found (AtDoor (suc place) (put_of Done).act ∷ line) is
      ∙ ap (λ (t : Bool). t && upgrades whole others line) (and_from _ _ own_name (written_so limits))

  -- and where that failed it ends
  pub first_stops : (place : ℕ) (found : Option (List ℕ)) → IsCommit c → format_found c found ≡ Some true → IsTrue (upgrades false (c ∷ others) (door_turns opening place (get_of found ∷ put_of Failed ∷ [])))
  first_stops place found limits is =
      behind_first place false found (AtDoor (suc place) (put_of Failed).act ∷ []) is
      ∙ and_from _ _ (and_from _ _ own_name (written_so limits)) refl

  -- an upgrade may end behind a get
  pub get_stops : (place : ℕ) (answer : KeeperAnswer) → IsTrue (upgrades false (c ∷ others) (door_turns opening place (called opener (Get Name) answer ∷ [])))
  get_stops place answer = and_from _ _ own_name (cases (list_any (λ (pair : Pair). is_among c (first_format_in pair)) (found_pair Name answer)) (finds_record c answer) (nothing_begins others))
    where
      cases : (first second : Bool) → IsTrue (upgrades false others []) → IsTrue (if first then puts_upgraded false c (upgrades false others) [] else if second then upgrades false others [] else not false && is_over [])
      cases true second rest = refl
      cases false true rest = rest
      cases false false rest = refl

-- ---- several commits

puts_append : (xs ys : List DoorEntry) → puts_in (xs ++ ys) ≡ puts_in xs + puts_in ys
puts_append xs ys = ap length (filter-append (λ (e : DoorEntry). is_put e.act) xs ys) ∙ length-append (filter (λ (e : DoorEntry). is_put e.act) xs) _

works_append : (xs ys : List DoorEntry) → IsFalse (has_failed xs) → has_failed (xs ++ ys) ≡ has_failed ys
works_append [] ys works = refl
works_append (x ∷ xs) ys works = let parts = or_parts (is_failure x.act) (has_failed xs) works in ap (λ (t : Bool). t || has_failed (xs ++ ys)) parts.0 ∙ works_append xs ys parts.1

ours_append : (xs ys : List DoorEntry) → IsTrue (are_ours xs) → IsTrue (are_ours ys) → IsTrue (are_ours (xs ++ ys))
ours_append xs ys ours more = list_all-append (λ (e : DoorEntry). same_line opening e.by) xs ys ∙ and_from _ _ ours more

-- nothing was done yet
pub none_passed : (commits : List Commit) (history : List DoorEntry) → HasPassed commits commits 0 history history
none_passed commits history = record { made = []; ends = sym (append-nil history); ours = refl; works = refl; passes = λ place whole line. refl; puts_made = refl }

-- what was done, and then more
pub passed_on : (commits others rest : List Commit) (n m : ℕ) (old now new : List DoorEntry) → HasPassed commits others n old now → HasPassed others rest m now new → HasPassed commits rest (n + m) old new
passed_on commits others rest n m old now new first more = record {
  made = first.made ++ more.made;
  ends = more.ends ∙ (ap (λ (h : List DoorEntry). h ++ more.made) first.ends ∙ append_assoc old first.made more.made);
  ours = ours_append first.made more.made first.ours more.ours;
  works = works_append first.made more.made first.works ∙ more.works;
  passes = λ place whole line.
      ap (λ (turns : List Turn). upgrades whole commits (turns ++ line)) (turns_append place first.made more.made)
      ∙ (ap (λ (turns : List Turn). upgrades whole commits turns) (append_assoc (door_turns opening place first.made) (door_turns opening (place + length first.made) more.made) line)
      ∙ (first.passes place whole (door_turns opening (place + length first.made) more.made ++ line) ∙ more.passes (place + length first.made) whole line));
  puts_made = ap (λ (k : ℕ). k + m) first.puts_made ∙ (ap (λ (k : ℕ). puts_in first.made + k) more.puts_made ∙ sym (puts_append first.made more.made));
}

-- what was done, and then the end, where the others are among the commits
pub stopped_on : (commits others : List Commit) (n : ℕ) (fault : AuditFault) (old now new : List DoorEntry) → ((c : Commit) → IsTrue (is_among c others) → IsTrue (is_among c commits)) → HasPassed commits others n old now → HasStopped fault others now new → HasStopped fault commits old new
stopped_on commits others n fault old now new within first more = record {
  made = first.made ++ more.made;
  ends = more.ends ∙ (ap (λ (h : List DoorEntry). h ++ more.made) first.ends ∙ append_assoc old first.made more.made);
  ours = ours_append first.made more.made first.ours more.ours;
  begins = λ place.
      ap (λ (turns : List Turn). upgrades false commits turns) (turns_append place first.made more.made)
      ∙ (first.passes place false (door_turns opening (place + length first.made) more.made) ∙ more.begins (place + length first.made));
  why = behind fault more.why;
}
  where
    last_behind : (xs ys : List DoorEntry) (e : DoorEntry) → last_or None ys ≡ Some e → last_or None (xs ++ ys) ≡ Some e
    last_behind xs ys e is = from None xs ys e is
      where
        some_last : (o : Option DoorEntry) (ys : List DoorEntry) (e : DoorEntry) → last_or None ys ≡ Some e → last_or o ys ≡ Some e
        some_last o [] e is = absurd (cc)
        some_last o (y ∷ ys) e is = is

        from : (o : Option DoorEntry) (xs ys : List DoorEntry) (e : DoorEntry) → last_or None ys ≡ Some e → last_or o (xs ++ ys) ≡ Some e
        from o [] ys e is = some_last o ys e is
        from o (x ∷ xs) ys e is = from (Some x) xs ys e is

    behind : (fault : AuditFault) → StopsFor fault others more.made → StopsFor fault commits (first.made ++ more.made)
    behind Store why = works_append first.made more.made first.works ∙ why
    behind TooMany why = why
    behind (Damaged name) why = record { commit = why.commit; among = within why.commit why.among; answer = why.answer; named = why.named; last = last_behind first.made more.made _ why.last; none = why.none; works = works_append first.made more.made first.works ∙ why.works }
    behind Memory why = works_append first.made more.made first.works ∙ why
