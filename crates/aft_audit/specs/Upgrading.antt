-- What comes of an upgrade: the office gets each record, and puts those of the first format in the second.
use Rattle.std.specs.Prelude.{Bool, Err, IsFalse, IsTrue, List, None, Ok, Option, Result, Some, [], filter, if◌then◌else◌, false, length, true, ℕ, ◌++◌, ◌≡◌}
use Rattle.std.specs.List.{last_or, list_all, list_any}
use Rattle.aft_keeper.specs.declared.keeper.KeeperAnswer.{KeeperAnswer}
use Rattle.aft_keeper.specs.declared.keeper.KeeperCall.TheVariants.{Get}
use Rattle.aft_records.specs.declared.stored.Commit.{Commit}
use Rattle.aft_records.specs.Commits.{is_among}
use Rattle.aft_model.specs.declared.door.DoorEntry.{DoorEntry}
use Rattle.aft_model.specs.Opening.{has_failed, opening}
use Rattle.aft_model.specs.Readings.{first_format_in, record_name}
use Rattle.aft_model.specs.ScanRun.{same_line}
use Rattle.aft_door.specs.Entries.{called}
use Rattle.aft_lines.specs.CourseWords.{finds_record, found_pair}
use Rattle.aft_lines.specs.Turns.{Turn, door_turns}
use Rattle.aft_lines.specs.UpgradeCourse.{upgrades}
use Rattle.aft_lines.specs.UpgradeTrace.{is_put}
use Rattle.aft_audit.specs.Audit.{opener}
use Rattle.aft_audit.specs.Versions.{found_answer}
use Rattle.aft_audit.specs.declared.fault.AuditFault.{AuditFault}
use Rattle.aft_audit.specs.declared.fault.AuditFault.TheVariants.{Damaged, Memory, Store, TooMany}

-- whether a get found the record of a commit in the first format, or in the second; none where it found no record of it
abbrev pub format_found : Commit → Option (List ℕ) → Option Bool
format_found c found =
    if list_any (λ pair. is_among c (first_format_in pair)) (found_pair (record_name c.id.uuid) (found_answer found)) then Some true
    else if finds_record c (found_answer found) then Some false
    else None

-- how many puts there are
abbrev pub puts_in : List DoorEntry → ℕ
puts_in made = length (filter (λ e. is_put e.act) made)

-- whether entries are of the opening's line
abbrev pub are_ours : List DoorEntry → Bool
are_ours made = list_all (λ e. same_line opening e.by) made

-- the turns for some commits were made, all of the opening's line: whatever follows them goes on with the others
pub record HasPassed (commits others : List Commit) (puts : ℕ) (old new : List DoorEntry) : Type 0 where
  pub made : List DoorEntry
  pub ends : new ≡ old ++ made
  pub ours : IsTrue (are_ours made)
  pub works : IsFalse (has_failed made)
  pub passes : (place : ℕ) (whole : Bool) (line : List Turn) → upgrades whole commits (door_turns opening place made ++ line) ≡ upgrades whole others line
  pub puts_made : puts ≡ puts_in made

-- the last entry is a get of the name of one of these commits' records, which found no record of it
pub record ShowsNone (name : List ℕ) (commits : List Commit) (made : List DoorEntry) : Type 0 where
  pub commit : Commit
  pub among : IsTrue (is_among commit commits)
  pub answer : KeeperAnswer
  pub named : name ≡ record_name commit.id.uuid
  pub last : last_or None made ≡ Some (called opener (Get name) answer)
  pub none : IsFalse (finds_record commit answer)
  pub works : IsFalse (has_failed made)

-- why an upgrade of commits stopped, by what it made; want of memory is free
abbrev pub StopsFor : AuditFault → List Commit → List DoorEntry → Type 0
StopsFor Store commits made = IsTrue (has_failed made)
StopsFor TooMany commits made = ⊥
StopsFor (Damaged name) commits made = ShowsNone name commits made
StopsFor Memory commits made = IsFalse (has_failed made)

-- an upgrade of commits stopped on its way, with entries of the opening's line alone
pub record HasStopped (fault : AuditFault) (commits : List Commit) (old new : List DoorEntry) : Type 0 where
  pub made : List DoorEntry
  pub ends : new ≡ old ++ made
  pub ours : IsTrue (are_ours made)
  pub begins : (place : ℕ) → IsTrue (upgrades false commits (door_turns opening place made))
  pub why : StopsFor fault commits made

-- what comes of an upgrade
abbrev pub Upgrades : List Commit → Result ℕ AuditFault → List DoorEntry → List DoorEntry → Type 0
Upgrades commits (Ok puts) old new = HasPassed commits [] puts old new
Upgrades commits (Err fault) old new = HasStopped fault commits old new
