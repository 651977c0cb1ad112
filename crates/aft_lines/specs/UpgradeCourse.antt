-- The course of an upgrade: behind the opening's reads the office gets each record that was shown, and puts those of the first format in the second. No node comes up.
use Rattle.std.specs.Prelude.{List, Bool, [], false, if◌then◌else◌, not, ℕ, ◌&&◌, ◌∷◌}
use Rattle.std.specs.List.{fold, list_any}
use Rattle.std.specs.Str.{bytes_eq}
use Rattle.aft_keeper.specs.declared.keeper.KeeperAnswer.{KeeperAnswer}
use Rattle.aft_keeper.specs.declared.keeper.KeeperCall.TheVariants.{Get, Put}
use Rattle.aft_records.specs.declared.stored.Commit.{Commit}
use Rattle.aft_records.specs.declared.stored.Record.{Record}
use Rattle.aft_records.specs.Commits.{is_among}
use Rattle.aft_model.specs.declared.door.DoorAct.TheVariants.{Call}
use Rattle.aft_model.specs.declared.door.DoorEntry.{DoorEntry}
use Rattle.aft_model.specs.DoorKnowledge.{opens}
use Rattle.aft_model.specs.Membership.{incarnation, same_incarnation, the_office}
use Rattle.aft_model.specs.Office.{before_open}
use Rattle.aft_model.specs.Opening.{record_pages}
use Rattle.aft_model.specs.Readings.{first_format_in, record_name}
use Rattle.aft_model.specs.ScanRun.{commits_on}
use Rattle.aft_model.specs.Stages.{is_acknowledged}
use Rattle.aft_lines.specs.BackupCourse.{with_uuid_order}
use Rattle.aft_lines.specs.CommitCourse.{is_written_as}
use Rattle.aft_lines.specs.CourseWords.{finds_record, found_pair, is_over}
use Rattle.aft_lines.specs.Turns.{AtDoor, Turn}

-- the record of a commit that the office writes: it names no node, and no reads
abbrev pub upgraded : Commit → Record
upgraded c = record { commit = c; origin = record { node = 0; inc = 0; reads = [] } }

-- whether a call is the office's, of the name of a commit's record
abbrev pub is_of_record : Commit → ℕ → ℕ → List ℕ → Bool
is_of_record c node inc name = same_incarnation the_office (incarnation node inc) && bytes_eq (record_name c.id.uuid) name

-- the put of a commit's record, and the next commits where it is acknowledged; where the upgrade need not be whole it may end here
abbrev pub puts_upgraded : Bool → Commit → (List Turn → Bool) → List Turn → Bool
puts_upgraded whole c go_on (AtDoor place (Call node inc (Put name bytes) answer) ∷ line) =
    is_of_record c node inc name
    && is_written_as (upgraded c) (record { name = name; bytes = bytes })
    && (if is_acknowledged answer then go_on line else not whole && is_over line)
puts_upgraded whole c go_on line = not whole && is_over line

-- behind the get of a commit's record: it is put anew where it was shown in the first format, and left where it was shown in the second; else the upgrade ends
abbrev pub behind_upgrade_get : Bool → Commit → KeeperAnswer → (List Turn → Bool) → List Turn → Bool
behind_upgrade_get whole c answer go_on line =
    if list_any (λ pair. is_among c (first_format_in pair)) (found_pair (record_name c.id.uuid) answer) then puts_upgraded whole c go_on line
    else if finds_record c answer then go_on line
    else not whole && is_over line

-- the turns for these commits, in order; where the upgrade need not be whole they may end after any turn
abbrev pub upgrades : Bool → List Commit → List Turn → Bool
upgrades whole [] line = is_over line
upgrades whole (c ∷ commits) (AtDoor place (Call node inc (Get name) answer) ∷ line) = is_of_record c node inc name && behind_upgrade_get whole c answer (upgrades whole commits) line
upgrades whole (c ∷ commits) line = not whole && is_over line

-- an upgrade of these commits, or the beginning of one: what the office reads until the door is open, and then the turns for the commits that it was shown, in the order of their UUIDs
abbrev pub upgrade_course : Bool → List Commit → List Turn → Bool
upgrade_course whole commits [] = not whole
upgrade_course whole commits (AtDoor place act ∷ line) = if opens act then upgrades whole commits line else upgrade_course whole commits line
upgrade_course whole commits line = false

-- the commits that an opening was shown, in the order of their UUIDs
abbrev pub shown_commits : List DoorEntry → List Commit
shown_commits door = fold with_uuid_order [] (commits_on (record_pages (before_open door)))
