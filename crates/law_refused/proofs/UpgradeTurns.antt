-- The turns of an upgrade look, and put records in the second format.
use Rattle.std.proofs.Common.{Bool, List, [], false, not, refl, subst, suc, sym, true, ℕ, ◌&&◌, ◌++◌, ◌∷◌, ◌≡◌}
use Rattle.std.specs.Prelude.{IsFalse, IsTrue, if◌then◌else◌}
use Rattle.std.specs.List.{list_all, list_any}
use Rattle.std.specs.Str.{bytes_eq}
use Rattle.std.proofs.lemmas.Bool.{and_from, and_parts, false≢true}
use Rattle.aft_keeper.specs.declared.keeper.KeeperAnswer.{KeeperAnswer}
use Rattle.aft_keeper.specs.declared.keeper.KeeperCall.TheVariants.{Get, Put}
use Rattle.aft_keeper.specs.declared.keeper.Pair.{Pair}
use Rattle.aft_records.specs.declared.stored.Commit.{Commit}
use Rattle.aft_records.specs.Commits.{is_among}
use Rattle.aft_model.specs.declared.door.DoorAct.{DoorAct}
use Rattle.aft_model.specs.declared.door.DoorAct.TheVariants.{Call}
use Rattle.aft_model.specs.declared.door.DoorEntry.{DoorEntry}
use Rattle.aft_model.specs.DoorKnowledge.{is_open, opens}
use Rattle.aft_model.specs.History.{each_after}
use Rattle.aft_model.specs.LegalDoor.{may_follow}
use Rattle.aft_model.specs.Membership.{incarnation, same_incarnation, the_office}
use Rattle.aft_model.specs.Opening.{opening}
use Rattle.aft_model.specs.Readings.{first_format_in, record_name, same_record, written_in}
use Rattle.aft_model.specs.ScanRun.{same_line}
use Rattle.aft_model.specs.Stages.{is_acknowledged}
use Rattle.aft_model.proofs.Histories.{any_found, any_from}
use Rattle.aft_model.proofs.Lists.{none_snoc}
use Rattle.aft_lines.specs.CommitCourse.{is_written_as}
use Rattle.aft_lines.specs.CourseWords.{finds_record, found_pair, is_over}
use Rattle.aft_lines.specs.Turns.{AtDoor, Turn, door_turns}
use Rattle.aft_lines.specs.UpgradeCourse.{behind_upgrade_get, is_of_record, puts_upgraded, upgrade_course, upgraded, upgrades}
use Rattle.law_refused.specs.Looks.{is_look}
use Rattle.law_refused.specs.Upgrades.{is_look_or_upgrade, is_second_format, only_upgrades}
use Rattle.law_refused.proofs.Entries.{OwnDoor, look_of, own_turns, read_first}

-- whether a turn is at the door, and looks there or upgrades
abbrev pub upgrades_alone : Turn → Bool
upgrades_alone (AtDoor place act) = is_look_or_upgrade act
upgrades_alone turn = false

abbrev pub AllUpgrade : List Turn → Type 0
AllUpgrade line = IsTrue (list_all upgrades_alone line)

over_upgrades : (whole : Bool) (line : List Turn) → IsTrue (whole && is_over line) → AllUpgrade line
over_upgrades whole [] is = refl
over_upgrades whole (turn ∷ line) is = absurd (false≢true (and_parts whole false is).1)

just_over : (line : List Turn) → IsTrue (is_over line) → AllUpgrade line
just_over [] is = refl
just_over (turn ∷ line) is = absurd (false≢true is)

-- a record that is written so is of the second format
pub written_second : (c : Commit) (pair : Pair) → IsTrue (is_written_as (upgraded c) pair) → IsTrue (is_second_format pair)
written_second c pair is = (let found = any_found (same_record (upgraded c)) (written_in pair) is in any_from (λ r. true) found.0 (written_in pair) found.1 refl)

module _ (whole : Bool) (c : Commit) (go_on : List Turn → Bool) (rest : (line : List Turn) → IsTrue (go_on line) → AllUpgrade line) where
  put_upgrades : (line : List Turn) → IsTrue (puts_upgraded whole c go_on line) → AllUpgrade line
  put_upgrades (AtDoor place (Call node inc (Put name bytes) answer) ∷ line) is =
      let all = and_parts (is_of_record c node inc name && is_written_as (upgraded c) (record { name = name; bytes = bytes })) (if is_acknowledged answer then go_on line else not whole && is_over line) is in
      let parts = and_parts (is_of_record c node inc name) (is_written_as (upgraded c) (record { name = name; bytes = bytes })) all.0 in
      let own = and_parts (same_incarnation the_office (incarnation node inc)) (bytes_eq (record_name c.id.uuid) name) parts.0 in
      and_from _ _ (and_from _ _ own.0 (written_second c (record { name = name; bytes = bytes }) parts.1)) (cases (is_acknowledged answer) all.1)
    where
      cases : (b : Bool) → IsTrue (if b then go_on line else not whole && is_over line) → AllUpgrade line
      cases true so = rest line so
      cases false so = over_upgrades (not whole) line so
  put_upgrades line is = over_upgrades (not whole) line is

  behind_get : (answer : KeeperAnswer) (line : List Turn) → IsTrue (behind_upgrade_get whole c answer go_on line) → AllUpgrade line
  behind_get answer line is = cases (list_any (λ pair. is_among c (first_format_in pair)) (found_pair (record_name c.id.uuid) answer)) (finds_record c answer) is
    where
      cases : (first second : Bool) → IsTrue (if first then puts_upgraded whole c go_on line else if second then go_on line else not whole && is_over line) → AllUpgrade line
      cases true second so = put_upgrades line so
      cases false true so = rest line so
      cases false false so = over_upgrades (not whole) line so

behind_upgrade : (whole : Bool) (commits : List Commit) (line : List Turn) → IsTrue (upgrades whole commits line) → AllUpgrade line
behind_upgrade whole [] line is = just_over line is
behind_upgrade whole (c ∷ commits) (AtDoor place (Call node inc (Get name) answer) ∷ line) is =
    behind_get whole c (upgrades whole commits) (behind_upgrade whole commits) answer line (and_parts (is_of_record c node inc name) (behind_upgrade_get whole c answer (upgrades whole commits) line) is).1
behind_upgrade whole (c ∷ commits) line is = over_upgrades (not whole) line is

look_upgrades : (act : DoorAct) → IsTrue (is_look act) → IsTrue (is_look_or_upgrade act)
look_upgrades (Call node inc (Put name bytes) answer) is = absurd (false≢true is)
look_upgrades act is = is

course_upgrades : (whole : Bool) (commits : List Commit) (place : ℕ) (before door : List DoorEntry) → IsTrue (each_after may_follow before door) → OwnDoor door → IsFalse (is_open before) → IsTrue (upgrade_course whole commits (door_turns opening place door)) → AllUpgrade (door_turns opening place door)
course_upgrades whole commits place before [] legal own shut is = refl
course_upgrades whole commits place before (entry ∷ door) legal own shut is =
    subst AllUpgrade (sym its) (and_from (is_look_or_upgrade entry.act) (list_all upgrades_alone rest) (look_upgrades entry.act (look_of place entry.act (read_first before place entry shut rules.0)))
    (cases (λ shut'. course_upgrades whole commits (suc place) (before ++ entry ∷ []) door rules.1 mine.1 shut') (opens entry.act) refl (subst (λ (l : List Turn). IsTrue (upgrade_course whole commits l)) its is)))
  where
    rest : List Turn
    rest = door_turns opening (suc place) door

    mine : IsTrue (same_line opening entry.by) × OwnDoor door
    mine = and_parts (same_line opening entry.by) (list_all (λ (e : DoorEntry). same_line opening e.by) door) own

    its : door_turns opening place (entry ∷ door) ≡ AtDoor place entry.act ∷ rest
    its = own_turns place entry door mine.0

    rules : IsTrue (may_follow before entry) × IsTrue (each_after may_follow (before ++ entry ∷ []) door)
    rules = and_parts (may_follow before entry) (each_after may_follow (before ++ entry ∷ []) door) legal

    cases : (IsFalse (is_open (before ++ entry ∷ [])) → IsTrue (upgrade_course whole commits rest) → AllUpgrade rest) → (b : Bool) → opens entry.act ≡ b → IsTrue (if b then upgrades whole commits rest else upgrade_course whole commits rest) → AllUpgrade rest
    cases more true it so = behind_upgrade whole commits rest so
    cases more false other so = more (none_snoc (λ (e : DoorEntry). opens e.act) before entry shut other) so

door_upgrades : (place : ℕ) (door : List DoorEntry) → OwnDoor door → AllUpgrade (door_turns opening place door) → IsTrue (only_upgrades door)
door_upgrades place [] own all = refl
door_upgrades place (entry ∷ door) own all =
    let mine = and_parts (same_line opening entry.by) (list_all (λ (e : DoorEntry). same_line opening e.by) door) own in
    let parts = and_parts (is_look_or_upgrade entry.act) (list_all upgrades_alone (door_turns opening (suc place) door)) (subst AllUpgrade (own_turns place entry door mine.0) all) in
    and_from _ _ parts.0 (door_upgrades (suc place) door mine.1 parts.1)

pub upgrades_only : (whole : Bool) (commits : List Commit) (door : List DoorEntry) → IsTrue (each_after may_follow [] door) → OwnDoor door → IsTrue (upgrade_course whole commits (door_turns opening 0 door)) → IsTrue (only_upgrades door)
upgrades_only whole commits door legal own is = door_upgrades 0 door own (course_upgrades whole commits 0 [] door legal own refl is)
