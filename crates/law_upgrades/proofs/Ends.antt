-- How an upgrade ends, by its turns: one that did its whole course was stopped by nothing, and one with a failed call by that.
use Rattle.std.proofs.Common.{◌≡◌, ℕ, suc, ◌+◌, Bool, true, false, not, ◌&&◌, ◌||◌, List, [], ◌∷◌, ◌++◌, refl, sym, ap, ◌∙◌, append-nil, arith, ◌⊎◌, inl, inr}
use Rattle.std.specs.Prelude.{IsTrue, if◌then◌else◌, None, Option, Some}
use Rattle.std.specs.List.{fold, last_or, list_any}
use Rattle.std.proofs.lemmas.Bool.{and_from, and_parts, false≢true, le-leb, or_left, or_right}
use Rattle.std.proofs.lemmas.List.Folds.{list_all-map}
use Rattle.std.specs.Str.{bytes_eq}
use Rattle.aft_keeper.specs.declared.keeper.KeeperCall.TheVariants.{Put, Get}
use Rattle.aft_keeper.specs.declared.keeper.KeeperAnswer.{KeeperAnswer}
use Rattle.aft_keeper.specs.declared.keeper.Pair.{Pair}
use Rattle.aft_records.specs.declared.stored.Commit.{Commit}
use Rattle.aft_records.specs.Commits.{is_among}
use Rattle.aft_model.specs.declared.door.DoorAct.{DoorAct}
use Rattle.aft_model.specs.declared.door.DoorAct.TheVariants.{Call}
use Rattle.aft_model.specs.declared.door.DoorEntry.{DoorEntry}
use Rattle.aft_model.specs.Membership.{incarnation, same_incarnation, the_office}
use Rattle.aft_model.specs.Opening.{has_failed, opening, is_failure}
use Rattle.aft_model.specs.ScanRun.{same_line}
use Rattle.aft_model.specs.Readings.{first_format_in, record_name}
use Rattle.aft_model.specs.Stages.{is_acknowledged}
use Rattle.aft_model.proofs.Histories.{In, any_from}
use Rattle.aft_lines.specs.RefusedTrace.{only_opens}
use Rattle.aft_lines.specs.Turns.{AtDoor, Turn, door_turns, turns, with_turn}
use Rattle.aft_lines.specs.UpgradeTrace.{CallFailed, ShowsNoRecord, UpgradeEnd, stopped_at_last, stopped_with}
use Rattle.aft_lines.specs.CommitCourse.{is_written_as}
use Rattle.aft_lines.specs.CourseWords.{finds_record, found_pair, is_over}
use Rattle.aft_lines.specs.UpgradeCourse.{behind_upgrade_get, is_of_record, puts_upgraded, upgraded, upgrades}
use Rattle.aft_audit.specs.Upgrading.{are_ours}
use Rattle.law_turns.specs.Order.{give_nothing_up, moments_ascend}
use Rattle.law_turns.proofs.Sorting.{alike, sorted_ascends, sorted_stable}
use Rattle.law_upgrades.specs.Runs.{run_at_door}
use Rattle.aft_keeper.specs.declared.keeper.KeeperAnswer.TheVariants as answers

-- ---- turns

pub opens_only : (door : List DoorEntry) → IsTrue (are_ours door) → IsTrue (only_opens (run_at_door door))
opens_only door own = and_from _ _ (list_all-map (same_line opening) (λ (entry : DoorEntry). entry.by) door ∙ own) refl

-- the entries of a history as turns, from a place on
abbrev placed : ℕ → List DoorEntry → List Turn
placed place [] = []
placed place (entry ∷ entries) = AtDoor place entry.act ∷ placed (suc place) entries

pub own_turns : (place : ℕ) (door : List DoorEntry) → IsTrue (are_ours door) → door_turns opening place door ≡ placed place door
own_turns place [] own = refl
own_turns place (entry ∷ door) own =
    let parts = and_parts (same_line opening entry.by) (are_ours door) own in
    ap (λ (b : Bool). (if b then AtDoor place entry.act ∷ [] else []) ++ door_turns opening (suc place) door) parts.0
    ∙ ap (λ (line : List Turn). AtDoor place entry.act ∷ line) (own_turns (suc place) door parts.1)

placed_ascend : (place : ℕ) (door : List DoorEntry) → IsTrue (moments_ascend (placed place door))
placed_ascend place [] = refl
placed_ascend place (entry ∷ []) = refl
placed_ascend place (entry ∷ next ∷ door) = and_from _ _ (le-leb (place + place + 1) (suc place + suc place + 1) (omega arith)) (placed_ascend (suc place) (next ∷ door))

placed_keep : (place : ℕ) (door : List DoorEntry) → IsTrue (give_nothing_up (placed place door))
placed_keep place [] = refl
placed_keep place (entry ∷ door) = placed_keep (suc place) door

pub turns_are : (door : List DoorEntry) → IsTrue (are_ours door) → turns opening (run_at_door door).trace ≡ door_turns opening 0 door
turns_are door own =
    ap (λ (line : List Turn). fold with_turn [] line) (append-nil (door_turns opening 0 door) ∙ own_turns 0 door own)
    ∙ alike (fold with_turn [] (placed 0 door)) (placed 0 door) (sorted_ascends [] (placed 0 door) refl) (placed_ascend 0 door) (λ m. sorted_stable m [] (placed 0 door) refl (placed_keep 0 door))
    ∙ sym (own_turns 0 door own)

-- ---- what stops an upgrade

module _ (all : List Commit) where
  abbrev stops : Option DoorEntry → Option UpgradeEnd
  stops last = stopped_at_last all last

  -- what stops an upgrade so is a failed call
  failure_stops : (act : DoorAct) → IsTrue (is_failure act) → stopped_with all act ≡ Some CallFailed
  failure_stops (Call node inc asked answers.Failed) is = refl
  failure_stops act is = absurd (false≢true is)

  stop_is_failure : (act : DoorAct) → stopped_with all act ≡ Some CallFailed → IsTrue (is_failure act)
  stop_is_failure (Call node inc asked answers.Failed) is = refl
  stop_is_failure (Call node inc (Get name) answer) is = cases (list_any (λ c. bytes_eq (record_name c.id.uuid) name && finds_record c answer) all) is
    where
      cases : (t : Bool) → (if t then None else Some (ShowsNoRecord name)) ≡ Some CallFailed → IsTrue (is_failure (Call node inc (Get name) answer))
      cases true is' = absurd (cc)
      cases false is' = absurd (cc)
  stop_is_failure act is = absurd (cc)

  pub failed_last : (last : Option DoorEntry) (made : List DoorEntry) → stops (last_or last made) ≡ Some CallFailed → (stops last ≡ Some CallFailed) ⊎ IsTrue (has_failed made)
  failed_last last [] is = inl is
  failed_last last (entry ∷ made) is = elim (failed_last (Some entry) made is) [
    | inl here ↦ inr (or_left _ _ (stop_is_failure entry.act here))
    | inr later ↦ inr (or_right _ _ later)
  ]

  -- what a course of some entries, behind a last one, tells of its end
  pub record Ends (whole : Bool) (last : Option DoorEntry) (made : List DoorEntry) : Type 0 where
    pub failed : IsTrue (has_failed made) → stops (last_or last made) ≡ Some CallFailed
    pub passed : IsTrue whole → stops last ≡ None → stops (last_or last made) ≡ None

  or_last : (a : Bool) → IsTrue (a || false) → IsTrue a
  or_last true is = refl
  or_last false is = absurd (false≢true is)

  unfailed : (a b : Bool) → a ≡ false → IsTrue (a || b) → IsTrue b
  unfailed true b works is = absurd (false≢true (sym works))
  unfailed false b works is = is

  -- where nothing may follow an entry, it is the last
  ends_here : (whole : Bool) (last : Option DoorEntry) (place : ℕ) (entry : DoorEntry) (made : List DoorEntry) → IsTrue (not whole && is_over (placed place made)) → Ends whole last (entry ∷ made)
  ends_here true last place entry made is = absurd (false≢true is)
  ends_here false last place entry [] is = record { failed = λ so. failure_stops entry.act (or_last (is_failure entry.act) so); passed = λ so calm. absurd (false≢true so) }
  ends_here false last place entry (next ∷ made) is = absurd (false≢true is)

  -- one entry more in front, which didn't fail and stops nothing
  goes_on : (whole : Bool) (last : Option DoorEntry) (entry : DoorEntry) (made : List DoorEntry) → is_failure entry.act ≡ false → stops (Some entry) ≡ None → Ends whole (Some entry) made → Ends whole last (entry ∷ made)
  goes_on whole last entry made works calm rest = record { failed = λ so. rest.failed (unfailed (is_failure entry.act) (has_failed made) works so); passed = λ so before. rest.passed so calm }

  -- the same, where more follows it
  more_behind : (whole : Bool) (last : Option DoorEntry) (entry next : DoorEntry) (made : List DoorEntry) → is_failure entry.act ≡ false → Ends whole last (next ∷ made) → Ends whole last (entry ∷ next ∷ made)
  more_behind whole last entry next made works rest = record { failed = λ so. rest.failed (unfailed (is_failure entry.act) (has_failed (next ∷ made)) works so); passed = rest.passed }

  -- the courses of an upgrade of commits, which are among all
  abbrev Walks : List Commit → Type 0
  Walks commits = (whole : Bool) (last : Option DoorEntry) (place : ℕ) (made : List DoorEntry) → ((c : Commit) → In c commits → In c all) → IsTrue (upgrades whole commits (placed place made)) → Ends whole last made

  walk_none : Walks []
  walk_none whole last place [] within is = record { failed = λ so. absurd (false≢true so); passed = λ so calm. calm }
  walk_none whole last place (entry ∷ made) within is = absurd (false≢true is)

  module _ (c : Commit) (commits : List Commit) (next : Walks commits) (within : (d : Commit) → In d (c ∷ commits) → In d all) (whole : Bool) where
    -- the put of the record, and what follows it
    by_put : (last : Option DoorEntry) (place : ℕ) (put : DoorEntry) (made : List DoorEntry) (act : DoorAct) → put.act ≡ act → IsTrue (puts_upgraded whole c (upgrades whole commits) (AtDoor place act ∷ placed (suc place) made)) → Ends whole last (put ∷ made)
    by_put last place put made (Call node inc (Put name bytes) answer) is so = by_answer answer is (and_parts (is_of_record c node inc name && is_written_as (upgraded c) (record { name = name; bytes = bytes })) (if is_acknowledged answer then upgrades whole commits (placed (suc place) made) else not whole && is_over (placed (suc place) made)) so).1
      where
        by_answer : (answer : KeeperAnswer) → put.act ≡ Call node inc (Put name bytes) answer → IsTrue (if is_acknowledged answer then upgrades whole commits (placed (suc place) made) else not whole && is_over (placed (suc place) made)) → Ends whole last (put ∷ made)
        by_answer answers.Done is' so' = goes_on whole last put made (ap is_failure is') (ap (stopped_with all) is') (next whole (Some put) (suc place) made (λ d i. within d (inr i)) so')
        by_answer answer is' so' = ends_here whole last (suc place) put made so'
    by_put last place put made act is so = absurd (false≢true (and_parts (not whole) false so).1)

    behind_first : (last : Option DoorEntry) (place : ℕ) (entry : DoorEntry) (made : List DoorEntry) → is_failure entry.act ≡ false → IsTrue (puts_upgraded whole c (upgrades whole commits) (placed place made)) → Ends whole last (entry ∷ made)
    behind_first last place entry [] works so = ends_here whole last place entry [] so
    behind_first last place entry (put ∷ made) works so = more_behind whole last entry put made works (by_put last place put made put.act refl so)

    -- the get of the record
    module _ (last : Option DoorEntry) (place : ℕ) (entry : DoorEntry) (made : List DoorEntry) (node inc : ℕ) (name : List ℕ) (its : IsTrue (bytes_eq (record_name c.id.uuid) name)) where
      abbrev rest : List Turn
      rest = placed place made

      found : (bytes : List ℕ) → entry.act ≡ Call node inc (Get name) (answers.Found bytes) → IsTrue (behind_upgrade_get whole c (answers.Found bytes) (upgrades whole commits) rest) → Ends whole last (entry ∷ made)
      found bytes is so = cases (list_any (λ (pair : Pair). is_among c (first_format_in pair)) (found_pair (record_name c.id.uuid) (answers.Found bytes))) (finds_record c (answers.Found bytes)) refl so
        where
          cases : (first second : Bool) → finds_record c (answers.Found bytes) ≡ second → IsTrue (if first then puts_upgraded whole c (upgrades whole commits) rest else if second then upgrades whole commits rest else not whole && is_over rest) → Ends whole last (entry ∷ made)
          cases true second shows_it so' = behind_first last place entry made (ap is_failure is) so'
          cases false true shows_it so' =
              goes_on whole last entry made (ap is_failure is)
              (ap (stopped_with all) is ∙ ap (λ (t : Bool). if t then None else Some (ShowsNoRecord name)) (any_from (λ d. bytes_eq (record_name d.id.uuid) name && finds_record d (answers.Found bytes)) c all (within c (inl refl)) (and_from _ _ its shows_it)))
              (next whole (Some entry) place made (λ d i. within d (inr i)) so')
          cases false false shows_it so' = ends_here whole last place entry made so'

      by_answer : (answer : KeeperAnswer) → entry.act ≡ Call node inc (Get name) answer → IsTrue (behind_upgrade_get whole c answer (upgrades whole commits) rest) → Ends whole last (entry ∷ made)
      by_answer (answers.Found bytes) is so = found bytes is so
      by_answer answer is so = ends_here whole last place entry made so

    by_get : (last : Option DoorEntry) (place : ℕ) (entry : DoorEntry) (made : List DoorEntry) (act : DoorAct) → entry.act ≡ act → IsTrue (upgrades whole (c ∷ commits) (AtDoor place act ∷ placed (suc place) made)) → Ends whole last (entry ∷ made)
    by_get last place entry made (Call node inc (Get name) answer) is so =
        let parts = and_parts (is_of_record c node inc name) (behind_upgrade_get whole c answer (upgrades whole commits) (placed (suc place) made)) so in
        by_answer last (suc place) entry made node inc name (and_parts (same_incarnation the_office (incarnation node inc)) (bytes_eq (record_name c.id.uuid) name) parts.0).1 answer is parts.1
    by_get last place entry made act is so = absurd (false≢true (and_parts (not whole) false so).1)

  walk_one : (c : Commit) (commits : List Commit) → Walks commits → Walks (c ∷ commits)
  walk_one c commits next whole last place [] within is = record { failed = λ so. absurd (false≢true so); passed = λ so calm. calm }
  walk_one c commits next whole last place (entry ∷ made) within is = by_get c commits next within whole last place entry made entry.act refl is

  pub walk : (commits : List Commit) → Walks commits
  walk [] = walk_none
  walk (c ∷ commits) = walk_one c commits (walk commits)
