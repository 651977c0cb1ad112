-- A round of orphans counts a fault only where a call of it wasn't acknowledged.
use Rattle.std.proofs.Common.{◌≡◌, ℕ, Bool, true, false, ◌&&◌, ◌||◌, not, List, [], ◌∷◌, ◌++◌, refl, sym, ap, subst, ◌∙◌, inl, inr, length, map, eqb}
use Rattle.std.specs.Prelude.{IsFalse, IsTrue, filter, if◌then◌else◌}
use Rattle.std.specs.List.{list_any}
use Rattle.std.specs.Str.{bytes_eq}
use Rattle.std.proofs.lemmas.Bool.{and_parts, cases_Bool, eqb-true, false≢true, or_cases}
use Rattle.aft_keeper.specs.declared.keeper.KeeperAnswer.{KeeperAnswer}
use Rattle.aft_keeper.specs.declared.keeper.KeeperAnswer.TheVariants as answers
use Rattle.aft_keeper.specs.declared.keeper.KeeperCall.TheVariants as calls
use Rattle.aft_records.specs.Commits.{is_listed}
use Rattle.aft_model.specs.declared.door.DoorAct.TheVariants.{Call, Claim, Release}
use Rattle.aft_model.specs.declared.script.Command.{Command}
use Rattle.aft_model.specs.declared.script.Command.TheVariants as commands
use Rattle.aft_model.specs.DoorKnowledge.{ids_in}
use Rattle.aft_model.specs.Membership.{incarnation, same_incarnation, the_office}
use Rattle.aft_model.specs.Readings.{has_reading, marker_name, record_name, version_name}
use Rattle.aft_model.proofs.Histories.{In, any_found, in_append, in_back}
use Rattle.aft_model.proofs.Lists.{in_filter, in_map}
use Rattle.aft_lines.specs.CausesRounds.{are_ends_right, count_of, counts_way, is_end_faulty, of_orphans}
use Rattle.aft_lines.specs.CourseWords.{Ends, found_pair}
use Rattle.aft_lines.specs.LineView.{LineView, ends_of}
use Rattle.aft_lines.specs.OrphanCourse.{FoundEnd, IsFaulty, IsHeldBack, IsKept, IsLast, VersionAt, Way, behind_look, claims_found, deleted_as, deletes_found, found_on, frees, is_cut_short, is_last, is_way, looks, round_ways, versions_prefix, versions_scan, ways, ways_behind, with_end, works_on_found}
use Rattle.aft_lines.specs.ScanCourse.{versions_limit}
use Rattle.aft_lines.specs.Turns.{AtDoor, Turn}
use Rattle.law_copies.proofs.Runs.{Went, went}
use Rattle.law_losses.proofs.Verdicts.{Unanswered, delete_fails, in_more}

none_filtered : {A : Type 0} (test : A → Bool) (xs : List A) → IsFalse (list_any test xs) → filter test xs ≡ []
none_filtered test [] none = refl
none_filtered {A} test (x ∷ xs) none = cases (test x) (none_filtered test xs) none
  where
    cases : (t : Bool) → (IsFalse (list_any test xs) → filter test xs ≡ []) → IsFalse (t || list_any test xs) → (if t then x ∷ filter test xs else filter test xs) ≡ []
    cases true rest is = absurd (false≢true (sym is))
    cases false rest is = rest is

-- whether a way has a fault
abbrev has_fault : Way → Bool
has_fault way = list_any is_end_faulty way.ends

-- where one of these ways has a fault, a call of the turns failed
abbrev WaysSo : List Turn → List Way → Type 0
WaysSo line some = (way : Way) → In way some → IsTrue (has_fault way) → Unanswered line

abbrev GoSo : (List Turn → List Way) → Type 0
GoSo go_on = (line : List Turn) → WaysSo line (go_on line)

abbrev Within : List Turn → List Turn → Type 0
Within line more = (turn : Turn) → In turn line → In turn more

both_so : (line : List Turn) (some others : List Way) → WaysSo line some → WaysSo line others → WaysSo line (some ++ others)
both_so line some others a b way among fault = elim (in_append way some others among) [ inl first ↦ a way first fault | inr second ↦ b way second fault ]

chosen_so : (line : List Turn) (some others : List Way) (t : Bool) → WaysSo line some → WaysSo line others → WaysSo line (if t then some else others)
chosen_so line some others true a b = a
chosen_so line some others false a b = b

none_so : (line : List Turn) → WaysSo line []
none_so line way among fault = absurd among

module _ (more : List Turn) where
  behind_so : (end : FoundEnd) (go_on : List Turn → List Way) (line : List Turn) → Within line more → (IsTrue (is_end_faulty end) → Unanswered more) → GoSo go_on → WaysSo more (ways_behind end go_on line)
  behind_so end go_on line within told goes way among fault = by_last (is_last end) among
    where
      by_last : (t : Bool) → In way (if t then record { ends = end ∷ []; behind = line } ∷ [] else map (with_end end) (go_on line)) → Unanswered more
      by_last true (inl is) = elim (or_cases (is_end_faulty end) false (subst (λ (w : Way). IsTrue (has_fault w)) is fault)) [ inl it ↦ told it | inr none ↦ absurd (false≢true none) ]
      by_last true (inr none) = absurd none
      by_last false there =
          let found = in_map (with_end end) way (go_on line) there in
          elim (or_cases (is_end_faulty end) (has_fault found.0) (subst (λ (w : Way). IsTrue (has_fault w)) found.2 fault)) [
            | inl it ↦ told it
            | inr later ↦ in_more line more within (goes line found.0 found.1 later)
          ]

  frees_so : (ends : Ends) (one : VersionAt) (end : FoundEnd) (go_on : List Turn → List Way) (line : List Turn) → Within line more → (IsTrue (is_end_faulty end) → Unanswered more) → GoSo go_on → WaysSo more (frees ends one end go_on line)
  frees_so ends one end go_on (AtDoor place (Release uuid node inc) ∷ line) within told goes =
      chosen_so more (ways_behind end go_on line) [] (same_incarnation the_office (incarnation node inc) && bytes_eq one.id.uuid uuid) (behind_so end go_on line (λ turn among. within turn (inr among)) told goes) (none_so more)
  frees_so ends one end go_on line within told goes = chosen_so more (ways_behind end go_on line) [] (ends.is_shut_out the_office 0) (behind_so end go_on line within told goes) (none_so more)

  deleted_told : (place node inc : ℕ) (name : List ℕ) (answer : KeeperAnswer) → In (AtDoor place (Call node inc (calls.Delete name) answer)) more → IsTrue (is_end_faulty (deleted_as answer)) → Unanswered more
  deleted_told place node inc name answers.Done among is = absurd (false≢true is)
  deleted_told place node inc name answers.Failed among is = record { place = place; node = node; inc = inc; call = calls.Delete name; answer = answers.Failed; among = among; fails = delete_fails node inc name answers.Failed refl }
  deleted_told place node inc name (answers.Found bytes) among is = record { place = place; node = node; inc = inc; call = calls.Delete name; answer = answers.Found bytes; among = among; fails = delete_fails node inc name (answers.Found bytes) refl }
  deleted_told place node inc name answers.Absent among is = record { place = place; node = node; inc = inc; call = calls.Delete name; answer = answers.Absent; among = among; fails = delete_fails node inc name answers.Absent refl }
  deleted_told place node inc name (answers.Page pairs) among is = record { place = place; node = node; inc = inc; call = calls.Delete name; answer = answers.Page pairs; among = among; fails = delete_fails node inc name (answers.Page pairs) refl }

  deletes_so : (ends : Ends) (one : VersionAt) (go_on : List Turn → List Way) (line : List Turn) → Within line more → GoSo go_on → WaysSo more (deletes_found ends one go_on line)
  deletes_so ends one go_on (AtDoor place (Call node inc (calls.Delete name) answer) ∷ line) within goes =
      chosen_so more (frees ends one (deleted_as answer) go_on line) [] (same_incarnation the_office (incarnation node inc) && bytes_eq (version_name one.key one.id) name)
      (frees_so ends one (deleted_as answer) go_on line (λ turn among. within turn (inr among)) (deleted_told place node inc name answer (within (AtDoor place (Call node inc (calls.Delete name) answer)) (inl refl))) goes) (none_so more)
  deletes_so ends one go_on line within goes =
      both_so more (frees ends one IsLast go_on line) (if ends.is_shut_out the_office 0 then frees ends one IsHeldBack go_on line else []) (frees_so ends one IsLast go_on line within (λ is. absurd (false≢true is)) goes)
      (chosen_so more (frees ends one IsHeldBack go_on line) [] (ends.is_shut_out the_office 0) (frees_so ends one IsHeldBack go_on line within (λ is. absurd (false≢true is)) goes) (none_so more))

  look_so : (ends : Ends) (one : VersionAt) (place node inc : ℕ) (name got : List ℕ) (answer : KeeperAnswer) (next go_on : List Turn → List Way) (line : List Turn) → In (AtDoor place (Call node inc (calls.Get got) answer)) more → Within line more → GoSo go_on → WaysSo more (next line)
      → WaysSo more (behind_look ends one name answer next go_on line)
  look_so ends one place node inc name got answers.Failed next go_on line among within goes rest =
      frees_so ends one IsFaulty go_on line within (λ is. record { place = place; node = node; inc = inc; call = calls.Get got; answer = answers.Failed; among = among; fails = λ may. refl }) goes
  look_so ends one place node inc name got answer next go_on line among within goes rest =
      chosen_so more (frees ends one IsKept go_on line) (if list_any (λ pair. not (has_reading pair)) (found_pair name answer) then frees ends one IsLast go_on line else next line ++ frees ends one IsLast go_on line) (list_any (λ pair. is_listed one.id (ids_in pair)) (found_pair name answer))
      (frees_so ends one IsKept go_on line within (λ is. absurd (false≢true is)) goes)
      (chosen_so more (frees ends one IsLast go_on line) (next line ++ frees ends one IsLast go_on line) (list_any (λ pair. not (has_reading pair)) (found_pair name answer)) (frees_so ends one IsLast go_on line within (λ is. absurd (false≢true is)) goes)
      (both_so more (next line) (frees ends one IsLast go_on line) rest (frees_so ends one IsLast go_on line within (λ is. absurd (false≢true is)) goes)))

  looks_so : (ends : Ends) (one : VersionAt) (name : List ℕ) (next go_on : List Turn → List Way) (line : List Turn) → Within line more → GoSo go_on → ((l : List Turn) → Within l more → WaysSo more (next l)) → WaysSo more (looks ends one name next go_on line)
  looks_so ends one name next go_on (AtDoor place (Call node inc (calls.Get got) answer) ∷ line) within goes rest =
      chosen_so more (behind_look ends one name answer next go_on line) [] (same_incarnation the_office (incarnation node inc) && bytes_eq name got)
      (look_so ends one place node inc name got answer next go_on line (within (AtDoor place (Call node inc (calls.Get got) answer)) (inl refl)) (λ turn among. within turn (inr among)) goes (rest line (λ turn among. within turn (inr among)))) (none_so more)
  looks_so ends one name next go_on line within goes rest = frees_so ends one IsLast go_on line within (λ is. absurd (false≢true is)) goes

  works_so : (ends : Ends) (one : VersionAt) (go_on : List Turn → List Way) (line : List Turn) → Within line more → GoSo go_on → WaysSo more (works_on_found ends one go_on line)
  works_so ends one go_on line within goes =
      looks_so ends one (record_name one.id.uuid) (looks ends one (marker_name one.id.uuid) (deletes_found ends one go_on) go_on) go_on line within goes
      (λ l inside. looks_so ends one (marker_name one.id.uuid) (deletes_found ends one go_on) go_on l inside goes (λ m deeper. deletes_so ends one go_on m deeper goes))

claims_so : (ends : Ends) (one : VersionAt) (go_on : List Turn → List Way) (line : List Turn) → GoSo go_on → WaysSo line (claims_found ends one go_on line)
claims_so ends one go_on (AtDoor place (Claim uuid node inc) ∷ line) goes =
    chosen_so (AtDoor place (Claim uuid node inc) ∷ line) (works_on_found ends one go_on line) [] (same_incarnation the_office (incarnation node inc) && bytes_eq one.id.uuid uuid)
    (works_so (AtDoor place (Claim uuid node inc) ∷ line) ends one go_on line (λ turn among. inr among) goes) (none_so (AtDoor place (Claim uuid node inc) ∷ line))
claims_so ends one go_on line goes = none_so line

ways_so : (ends : Ends) (found : List VersionAt) → GoSo (ways ends found)
ways_so ends [] line way (inl is) fault = absurd (false≢true (subst (λ (w : Way). IsTrue (has_fault w)) is fault))
ways_so ends [] line way (inr none) fault = absurd none
ways_so ends (one ∷ more) line way among fault =
    both_so line (claims_found ends one (ways ends more) line ++ ways_behind IsHeldBack (ways ends more) line) (ways_behind IsLast (ways ends more) line)
    (both_so line (claims_found ends one (ways ends more) line) (ways_behind IsHeldBack (ways ends more) line) (claims_so ends one (ways ends more) line (λ l. ways_so ends more l)) (behind_so line IsHeldBack (ways ends more) line (λ turn there. there) (λ is. absurd (false≢true is)) (λ l. ways_so ends more l)))
    (behind_so line IsLast (ways ends more) line (λ turn there. there) (λ is. absurd (false≢true is)) (λ l. ways_so ends more l)) way among fault

-- so a round none of whose calls failed counts no fault
pub no_faults : (view : LineView) (command : Command) (deleted kept held fault : ℕ) → (Unanswered view.turns → ⊥)
    → IsTrue (of_orphans (λ key. (versions_scan key view.turns).is_whole && list_any (λ way. not (is_cut_short way) && counts_way deleted kept held fault view key way) (round_ways key (ends_of view) view.turns)) command) → fault ≡ 0
no_faults view (commands.Orphans key) deleted kept held fault none caused =
    let some = (and_parts (versions_scan key view.turns).is_whole _ caused).1 in
    let way = any_found (λ way. not (is_cut_short way) && counts_way deleted kept held fault view key way) (round_ways key (ends_of view) view.turns) some in
    let counted = (and_parts (not (is_cut_short way.0)) (counts_way deleted kept held fault view key way.0) way.2).1 in
    let counts = (and_parts _ (are_ends_right view _ _ way.0.ends) counted).0 in
    let is : fault ≡ count_of is_end_faulty way.0 = eqb-true fault (count_of is_end_faulty way.0) (and_parts _ (eqb fault (count_of is_end_faulty way.0)) counts).1 in
    elim (cases_Bool (has_fault way.0)) [
      | inl faulty ↦ absurd (none (in_more (versions_scan key view.turns).behind view.turns behind_scan (ways_so (ends_of view) (found_on (versions_scan key view.turns).listed) (versions_scan key view.turns).behind way.0 (in_filter is_way way.0 (ways (ends_of view) (found_on (versions_scan key view.turns).listed) (versions_scan key view.turns).behind) way.1).0 faulty)))
      | inr clean ↦ is ∙ ap length (none_filtered is_end_faulty way.0.ends clean)
    ]
  where
    scan : Went versions_limit the_office (versions_prefix key) [] [] view.turns (versions_scan key view.turns)
    scan = went versions_limit the_office (versions_prefix key) [] [] view.turns

    behind_scan : (turn : Turn) → In turn (versions_scan key view.turns).behind → In turn view.turns
    behind_scan turn among = subst (In turn) (sym scan.splits) (in_back turn scan.made (versions_scan key view.turns).behind among)
no_faults view command deleted kept held fault none caused = absurd (false≢true caused)
