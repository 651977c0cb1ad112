-- A whole upgrade leaves each commit's record surely there, in the second format.
use Rattle.std.proofs.Common.{Bool, List, [], append-nil, append_assoc, eqb, false, inl, inr, length, not, refl, subst, suc, sym, true, ℕ, ◌&&◌, ◌++◌, ◌||◌, ◌∙◌, ◌∷◌, ◌≡◌}
use Rattle.std.specs.Prelude.{IsTrue, if◌then◌else◌}
use Rattle.std.specs.List.{list_all}
use Rattle.std.specs.Str.{bytes_eq}
use Rattle.std.proofs.lemmas.Bool.{and_parts, false≢true, or_left, or_right}
use Rattle.aft_keeper.specs.declared.keeper.KeeperAnswer.{KeeperAnswer}
use Rattle.aft_keeper.specs.declared.keeper.KeeperAnswer.TheVariants as answers
use Rattle.aft_keeper.specs.declared.keeper.KeeperCall.TheVariants.{Get, Put}
use Rattle.aft_keeper.specs.declared.keeper.Pair.{Pair}
use Rattle.aft_records.specs.declared.stored.Commit.{Commit}
use Rattle.aft_records.specs.Commits.{is_among}
use Rattle.aft_model.specs.declared.door.DoorAct.{DoorAct}
use Rattle.aft_model.specs.declared.door.DoorAct.TheVariants.{Call}
use Rattle.aft_model.specs.declared.door.DoorEntry.{DoorEntry}
use Rattle.aft_model.specs.DoorKnowledge.{is_open, opens}
use Rattle.aft_model.specs.Honest.{Honest}
use Rattle.aft_model.specs.Membership.{incarnation, same_incarnation, the_office}
use Rattle.aft_model.specs.Opening.{opening}
use Rattle.aft_model.specs.Readings.{first_format_in, is_record_of, record_name, records_in, written_in}
use Rattle.aft_model.specs.ScanRun.{same_line}
use Rattle.aft_model.proofs.Histories.{In, any_found, any_from}
use Rattle.aft_model.proofs.Sights.{same_bytes}
use Rattle.aft_lines.specs.CommitCourse.{is_written_as}
use Rattle.aft_lines.specs.CourseWords.{is_over}
use Rattle.aft_lines.specs.Turns.{AtDoor, Turn, door_turns}
use Rattle.aft_lines.specs.UpgradeCourse.{behind_upgrade_get, is_of_record, puts_upgraded, upgrade_course, upgraded, upgrades}
use Rattle.aft_records.specs.Commits.{same_commit}
use Rattle.law_kept.proofs.Always.{honest_begins}
use Rattle.law_refused.proofs.Entries.{OwnDoor, own_turns}
use Rattle.law_refused.proofs.Upgraded.{Sure, got_committed, got_sure, not_first, pair_of, put_leaves, put_sure, second_shown, sure_got}

-- what the rest of an upgrade leaves: what was sure is sure, and each of these commits is
record Left (before door : List DoorEntry) (commits : List Commit) : Type 0 where
  pub stays : (d : Commit) → Sure d before → Sure d (before ++ door)
  pub each : (c : Commit) → In c commits → Sure c (before ++ door)

further : (before middle door more : List DoorEntry) (commits : List Commit) → middle ++ door ≡ before ++ more → ((d : Commit) → Sure d before → Sure d middle) → Left middle door commits → Left before more commits
further before middle door more commits same stays rest = record {
  stays = λ d was. subst (Sure d) same (rest.stays d (stays d was));
  each = λ c among. subst (Sure c) same (rest.each c among);
}

with_first : (c : Commit) (before door : List DoorEntry) (commits : List Commit) → Sure c before → Left before door commits → Left before door (c ∷ commits)
with_first c before door commits was rest = record { stays = rest.stays; each = each }
  where
    each : (d : Commit) → In d (c ∷ commits) → Sure d (before ++ door)
    each d (inl is) = subst (λ (x : Commit). Sure x (before ++ door)) (sym is) (rest.stays c was)
    each d (inr later) = rest.each d later

own_parts : (entry : DoorEntry) (door : List DoorEntry) → OwnDoor (entry ∷ door) → IsTrue (same_line opening entry.by) × OwnDoor door
own_parts entry door own = and_parts (same_line opening entry.by) (list_all (λ (e : DoorEntry). same_line opening e.by) door) own

abbrev Walks : List Commit → Type 0
Walks commits = (place : ℕ) (before door : List DoorEntry) → Honest (before ++ door) → OwnDoor door → IsTrue (upgrades true commits (door_turns opening place door)) → Left before door commits

walk_none : Walks []
walk_none place before [] honest own is = record { stays = λ d was. subst (Sure d) (sym (append-nil before)) was; each = λ c none. absurd none }
walk_none place before (entry ∷ door) honest own is = absurd (false≢true (subst (λ (l : List Turn). IsTrue (is_over l)) (own_turns place entry door (own_parts entry door own).0) is))

or_none : (a : Bool) → (a || false) ≡ false → a ≡ false
or_none true e = e
or_none false e = refl

or_some : (a : Bool) → IsTrue (a || false) → IsTrue a
or_some true e = refl
or_some false e = e

-- what a pair is in the first format, it is
first_is : (pair : Pair) (d : Commit) → In d (first_format_in pair) → In d (records_in pair)
first_is pair d among = cases (eqb (length (written_in pair)) 0) among
  where
    cases : (t : Bool) → In d (if t then records_in pair else []) → In d (records_in pair)
    cases true among' = among'
    cases false among' = absurd among'

module _ (c : Commit) (commits : List Commit) (next : Walks commits) where
  -- behind the get that showed the record
  module _ (place : ℕ) (before : List DoorEntry) (entry : DoorEntry) (node inc : ℕ) (name bytes : List ℕ) (is : entry.act ≡ Call node inc (Get name) (answers.Found bytes)) (named : record_name c.id.uuid ≡ name) where
    abbrev middle : List DoorEntry
    middle = before ++ entry ∷ []

    module _ (put : DoorEntry) (door : List DoorEntry) (honest : Honest (middle ++ put ∷ door)) (own : OwnDoor door) (first : IsTrue (is_among c (first_format_in (pair_of (record_name c.id.uuid) bytes)))) where
      got_honest : Honest middle
      got_honest = honest_begins middle (put ∷ door) honest

      its_record : IsTrue (is_record_of c (pair_of (record_name c.id.uuid) bytes))
      its_record =
          let found = any_found (same_commit c) (first_format_in (pair_of (record_name c.id.uuid) bytes)) first in
          any_from (same_commit c) found.0 (records_in (pair_of (record_name c.id.uuid) bytes)) (first_is (pair_of (record_name c.id.uuid) bytes) found.0 found.1) found.2

      put_behind : (at by : ℕ) (putting written : List ℕ) → put.act ≡ Call at by (Put putting written) answers.Done → record_name c.id.uuid ≡ putting → IsTrue (is_written_as (upgraded c) (pair_of putting written)) → IsTrue (upgrades true commits (door_turns opening (suc (suc place)) door)) → Left before (entry ∷ put ∷ door) (c ∷ commits)
      put_behind at by putting written puts its_name writes so =
          let behind : List DoorEntry = middle ++ put ∷ [] in
          let honest' : Honest (behind ++ door) = subst Honest (sym (append_assoc middle (put ∷ []) door)) honest in
          let sure = put_sure middle put at by putting written puts c its_name writes (got_committed before entry node inc name bytes is got_honest c named its_record) in
          further before behind door (entry ∷ put ∷ door) (c ∷ commits) (append_assoc middle (put ∷ []) door ∙ append_assoc before (entry ∷ []) (put ∷ door))
          (λ d was. put_leaves middle put at by putting written puts d (subst (λ (n : List ℕ). bytes_eq (record_name d.id.uuid) n ≡ false) (sym named ∙ its_name) (not_first before entry node inc name bytes is got_honest d was c named first)) (sure_got before entry node inc name bytes is got_honest d was))
          (with_first c behind door commits sure (next (suc (suc place)) behind door honest' own so))

      by_put : (act : DoorAct) → put.act ≡ act → IsTrue (puts_upgraded true c (upgrades true commits) (AtDoor (suc place) act ∷ door_turns opening (suc (suc place)) door)) → Left before (entry ∷ put ∷ door) (c ∷ commits)
      by_put (Call at by (Put putting written) answers.Done) puts so =
          let all = and_parts (is_of_record c at by putting && is_written_as (upgraded c) (pair_of putting written)) (upgrades true commits (door_turns opening (suc (suc place)) door)) so in
          let parts = and_parts (is_of_record c at by putting) (is_written_as (upgraded c) (pair_of putting written)) all.0 in
          let its = and_parts (same_incarnation the_office (incarnation at by)) (bytes_eq (record_name c.id.uuid) putting) parts.0 in
          put_behind at by putting written puts (same_bytes (record_name c.id.uuid) putting its.1) parts.1 all.1
      by_put (Call at by (Put putting written) answer) puts so = absurd (false≢true (and_parts (is_of_record c at by putting && is_written_as (upgraded c) (pair_of putting written)) false so).1)
      by_put act puts so = absurd (false≢true so)

    behind_first : (door : List DoorEntry) → Honest (middle ++ door) → OwnDoor door → IsTrue (is_among c (first_format_in (pair_of (record_name c.id.uuid) bytes))) → IsTrue (puts_upgraded true c (upgrades true commits) (door_turns opening (suc place) door)) → Left before (entry ∷ door) (c ∷ commits)
    behind_first [] honest own first so = absurd (false≢true so)
    behind_first (put ∷ door) honest own first so =
        let mine = own_parts put door own in
        by_put put door honest mine.1 first put.act refl (subst (λ (l : List Turn). IsTrue (puts_upgraded true c (upgrades true commits) l)) (own_turns (suc place) put door mine.0) so)

    behind_second : (door : List DoorEntry) → Honest (middle ++ door) → OwnDoor door → is_among c (first_format_in (pair_of (record_name c.id.uuid) bytes)) ≡ false → IsTrue (is_record_of c (pair_of (record_name c.id.uuid) bytes)) → IsTrue (upgrades true commits (door_turns opening (suc place) door)) → Left before (entry ∷ door) (c ∷ commits)
    behind_second door honest own first its so =
        let got_honest' = honest_begins middle door honest in
        further before middle door (entry ∷ door) (c ∷ commits) (append_assoc before (entry ∷ []) door) (λ d was. sure_got before entry node inc name bytes is got_honest' d was)
        (with_first c middle door commits (got_sure before entry node inc name bytes is got_honest' c named (second_shown c (record_name c.id.uuid) bytes its first) its) (next (suc place) middle door honest own so))

    behind_found : (door : List DoorEntry) → Honest (middle ++ door) → OwnDoor door → IsTrue (behind_upgrade_get true c (answers.Found bytes) (upgrades true commits) (door_turns opening (suc place) door)) → Left before (entry ∷ door) (c ∷ commits)
    behind_found door honest own so = cases (is_among c (first_format_in (pair_of (record_name c.id.uuid) bytes)) || false) refl (is_record_of c (pair_of (record_name c.id.uuid) bytes)) refl so
      where
        line : List Turn
        line = door_turns opening (suc place) door

        cases : (first : Bool) → (is_among c (first_format_in (pair_of (record_name c.id.uuid) bytes)) || false) ≡ first → (second : Bool) → is_record_of c (pair_of (record_name c.id.uuid) bytes) ≡ second
            → IsTrue (if first then puts_upgraded true c (upgrades true commits) line else if second then upgrades true commits line else not true && is_over line) → Left before (entry ∷ door) (c ∷ commits)
        cases true e second f so' = behind_first door honest own (or_some (is_among c (first_format_in (pair_of (record_name c.id.uuid) bytes))) e) so'
        cases false e true f so' = behind_second door honest own (or_none (is_among c (first_format_in (pair_of (record_name c.id.uuid) bytes))) e) f so'
        cases false e false f so' = absurd (false≢true so')

  walk_one : Walks (c ∷ commits)
  walk_one place before [] honest own is = absurd (false≢true is)
  walk_one place before (entry ∷ door) honest own is = by_act entry.act refl (subst (λ (l : List Turn). IsTrue (upgrades true (c ∷ commits) l)) (own_turns place entry door (own_parts entry door own).0) is)
    where
      honest' : Honest ((before ++ entry ∷ []) ++ door)
      honest' = subst Honest (sym (append_assoc before (entry ∷ []) door)) honest

      by_answer : (node inc : ℕ) (name : List ℕ) (answer : KeeperAnswer) → entry.act ≡ Call node inc (Get name) answer → record_name c.id.uuid ≡ name → IsTrue (behind_upgrade_get true c answer (upgrades true commits) (door_turns opening (suc place) door)) → Left before (entry ∷ door) (c ∷ commits)
      by_answer node inc name (answers.Found bytes) is' named so = behind_found place before entry node inc name bytes is' named door honest' (own_parts entry door own).1 so
      by_answer node inc name answer is' named so = absurd (false≢true so)

      by_act : (act : DoorAct) → entry.act ≡ act → IsTrue (upgrades true (c ∷ commits) (AtDoor place act ∷ door_turns opening (suc place) door)) → Left before (entry ∷ door) (c ∷ commits)
      by_act (Call node inc (Get name) answer) is' so =
          let parts = and_parts (is_of_record c node inc name) (behind_upgrade_get true c answer (upgrades true commits) (door_turns opening (suc place) door)) so in
          let its = and_parts (same_incarnation the_office (incarnation node inc)) (bytes_eq (record_name c.id.uuid) name) parts.0 in
          by_answer node inc name answer is' (same_bytes (record_name c.id.uuid) name its.1) parts.1
      by_act act is' so = absurd (false≢true so)

walk : (commits : List Commit) → Walks commits
walk [] = walk_none
walk (c ∷ commits) = walk_one c commits (walk commits)

-- a whole upgrade opens the door, and leaves each of its commits sure
pub open_walk : (commits : List Commit) (place : ℕ) (before door : List DoorEntry) → Honest (before ++ door) → OwnDoor door → IsTrue (upgrade_course true commits (door_turns opening place door)) → IsTrue (is_open door) × ((c : Commit) → In c commits → Sure c (before ++ door))
open_walk commits place before [] honest own is = absurd (false≢true is)
open_walk commits place before (entry ∷ door) honest own is =
    cases (open_walk commits (suc place) (before ++ entry ∷ []) door honest' mine.1) (opens entry.act) refl (subst (λ (l : List Turn). IsTrue (upgrade_course true commits l)) (own_turns place entry door mine.0) is)
  where
    rest : List Turn
    rest = door_turns opening (suc place) door

    mine : IsTrue (same_line opening entry.by) × OwnDoor door
    mine = own_parts entry door own

    joined : (before ++ entry ∷ []) ++ door ≡ before ++ entry ∷ door
    joined = append_assoc before (entry ∷ []) door

    honest' : Honest ((before ++ entry ∷ []) ++ door)
    honest' = subst Honest (sym joined) honest

    cases : (IsTrue (upgrade_course true commits rest) → IsTrue (is_open door) × ((c : Commit) → In c commits → Sure c ((before ++ entry ∷ []) ++ door))) → (b : Bool) → opens entry.act ≡ b → IsTrue (if b then upgrades true commits rest else upgrade_course true commits rest)
        → IsTrue (is_open (entry ∷ door)) × ((c : Commit) → In c commits → Sure c (before ++ entry ∷ door))
    cases more true it so = (or_left _ _ it, λ c among. subst (Sure c) joined ((walk commits (suc place) (before ++ entry ∷ []) door honest' mine.1 so).each c among))
    cases more false other so = (let found = more so in (or_right _ _ found.0, λ c among. subst (Sure c) joined (found.1 c among)))
