-- The copier: which incarnation a copy has up at each of its positions.
use Rattle.std.specs.Prelude.{Bool, None, Option, Some, false, is_none, true, ◌&&◌, ◌==◌}
use Rattle.aft_model.specs.declared.door.DoorAct.TheVariants as doors
use Rattle.aft_model.specs.Membership.{Incarnation, incarnation, same_incarnation}
use Rattle.aft_lines.specs.BackupCourse.{copier}
use Rattle.aft_lines.specs.Progress.{CopyMarkers, CopyRecords, Copying, MustFence, Progress}
use Rattle.aft_lines.specs.Turns.{AtDoor, Turn}

-- the incarnation that a copy has up in a position, if it has one
abbrev pub copier_at : Progress → Option Incarnation
copier_at (CopyRecords by scan) = Some by.who
copier_at (CopyMarkers by records scan) = Some by.who
copier_at (Copying by left) = Some by.who
copier_at (MustFence by whole) = Some by.who
copier_at position = None

-- the same behind one turn more
abbrev pub copier_behind : Option Incarnation → Turn → Option Incarnation
copier_behind who (AtDoor place (doors.Up node inc)) = Some (incarnation node inc)
copier_behind who (AtDoor place (doors.Fence node inc)) = None
copier_behind who turn = who

-- whether it is this one
abbrev pub is_the_copier : Option Incarnation → Incarnation → Bool
is_the_copier None who = false
is_the_copier (Some other) who = same_incarnation other who

-- whether a turn goes with what a copy has up: only while it has none a copier comes up, and it fences its own alone
abbrev pub is_of_copier : Option Incarnation → Turn → Bool
is_of_copier who (AtDoor place (doors.Up node inc)) = is_none who && node == copier
is_of_copier who (AtDoor place (doors.Fence node inc)) = is_the_copier who (incarnation node inc)
is_of_copier who turn = true
