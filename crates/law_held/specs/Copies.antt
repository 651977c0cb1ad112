-- Copies and full markers: what a history of the door keeps while a copier is up.
use Rattle.std.specs.Prelude.{Bool, IsFalse, IsTrue, List, None, Option, Some, [], false, length, not, true, ℕ, ◌==◌, ◌||◌, ◌≡◌}
use Rattle.std.specs.List.{list_all, list_any}
use Rattle.aft_keeper.specs.declared.keeper.KeeperCall.TheVariants.{Put}
use Rattle.aft_model.specs.declared.caller.By.{By}
use Rattle.aft_model.specs.declared.door.DoorAct.{DoorAct}
use Rattle.aft_model.specs.declared.door.DoorAct.TheVariants.{Call, Fence, Up}
use Rattle.aft_model.specs.declared.door.DoorEntry.{DoorEntry}
use Rattle.aft_model.specs.declared.script.Command.{Command}
use Rattle.aft_model.specs.declared.script.Command.TheVariants.{Backup, Crash}
use Rattle.aft_model.specs.Committed.{marks_in}
use Rattle.aft_model.specs.History.{each_after}
use Rattle.aft_model.specs.Membership.{Incarnation, is_up, ups}
use Rattle.aft_model.specs.ScanRun.{same_line}
use Rattle.aft_lines.specs.Advance.{leads_to}
use Rattle.aft_lines.specs.Asked.{Asked, Ran}
use Rattle.aft_lines.specs.BackupCourse.{copier}
use Rattle.aft_lines.specs.CourseWords.{Ends}
use Rattle.aft_lines.specs.Progress.{Progress}
use Rattle.aft_lines.specs.RunsSoFar.{position_of}
use Rattle.aft_lines.specs.Steps.{Made, own_steps}
use Rattle.aft_lines.specs.Turns.{AtDoor, Turn}
use Rattle.aft_lines.specs.Views.{each_view}
use Rattle.law_claims.specs.Copying.{copier_at}
use Rattle.law_claims.specs.Moments.{Asking, or_not_begun}

-- whether a copier is up
abbrev pub has_copier : List DoorEntry → Bool
has_copier history = list_any (λ who. who.node == copier) (ups history)

-- whether an act puts no full marker, whatever was answered, or no copier is up
abbrev pub marks_beside_none : List DoorEntry → DoorAct → Bool
marks_beside_none history (Call node inc (Put name bytes) answer) = not (has_copier history) || length (marks_in (record { name = name; bytes = bytes })) == 0
marks_beside_none history act = true

-- a history in which no full marker is put while a copier is up
abbrev pub MarksBesideNone : List DoorEntry → Type 0
MarksBesideNone history = IsTrue (each_after (λ before entry. marks_beside_none before entry.act) [] history)

-- whether a turn brings no copier up
abbrev pub comes_low : Turn → Bool
comes_low (AtDoor place (Up node inc)) = not (node == copier)
comes_low turn = true

-- ---- at a moment of a run

-- the copier that a copy has up behind its turns
abbrev pub copier_of_turns : List ℕ → Ends → List Turn → Option Command → Option Incarnation
copier_of_turns nodes ends line (Some Backup) = copier_at (or_not_begun (leads_to Backup nodes ends line))
copier_of_turns nodes ends line command = None

-- the same behind some steps
abbrev pub copier_of : Asking → List Made → By → Option Incarnation
copier_of asking made by = copier_of_turns asking.nodes (asking.ends by) (own_steps by made) (asking.command by)

-- how the copiers lie: no copy has one, and none is up; or just one copy does, and its copier alone is up
pub data CopiersLie (door : List DoorEntry) (copies : By → Option Incarnation) : Type 0 where
  NoneUp : ((by : By) → copies by ≡ None) → IsFalse (has_copier door) → CopiersLie door copies
  OneUp : (by : By) (who : Incarnation) → copies by ≡ Some who → who.node ≡ copier → IsTrue (is_up who door) → ((other : Incarnation) → other.node ≡ copier → IsTrue (is_up other door) → other ≡ who) → ((other : By) → IsFalse (same_line by other) → copies other ≡ None) → CopiersLie door copies

-- whether a turn fences no copier
abbrev pub spares_copiers : Turn → Bool
spares_copiers (AtDoor place (Fence node inc)) = not (node == copier)
spares_copiers turn = true

-- whether a command is a crash
abbrev pub is_crash : Command → Bool
is_crash (Crash node) = true
is_crash command = false

-- a run in which no crash fences a copier
abbrev pub CrashesSpare : Asked → Ran → Type 0
CrashesSpare asked ran = IsTrue (each_view (λ view. not (is_crash view.command) || list_all spares_copiers view.turns) asked ran)

-- whether the copier of a copy is up
abbrev pub copier_stands : List DoorEntry → Option Incarnation → Bool
copier_stands door None = true
copier_stands door (Some who) = is_up who door

-- what a copy has up where it has come, if it has come somewhere
abbrev pub copier_in : Option Progress → Option Incarnation
copier_in None = None
copier_in (Some position) = copier_at position

-- whether a command is a copy
abbrev pub is_copy : Command → Bool
is_copy Backup = true
is_copy command = false

-- whether the copier of each copy is up where that has come
abbrev pub CopiesStand : Asked → Ran → Type 0
CopiesStand asked ran = IsTrue (each_view (λ view. not (is_copy view.command) || copier_stands ran.trace.door (copier_in (position_of view))) asked ran)
