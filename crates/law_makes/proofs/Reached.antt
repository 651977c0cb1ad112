-- Which positions lines of a command come to, where not all of its kind.
use Rattle.std.specs.Prelude.{Bool, false, true, ◌&&◌, ◌==◌}
use Rattle.aft_model.specs.declared.script.Command.{Command}
use Rattle.aft_model.specs.declared.script.Command.TheVariants as commands
use Rattle.aft_model.specs.Membership.{same_incarnation, the_office}
use Rattle.aft_lines.specs.BackupCourse.{copier}
use Rattle.aft_lines.specs.Progress.{CopyMarkers, CopyRecords, Copying, FoundShort, HasFailed, IsStoring, MustFence, OrphanScan, Progress, Settling}

-- a begin never finds a marker to delete
abbrev pub comes_to_begin : Progress → Bool
comes_to_begin (FoundShort begun) = false
comes_to_begin position = true

-- an abort settles as one, and never puts
abbrev pub comes_to_abort : Progress → Bool
comes_to_abort (Settling false storing) = false
comes_to_abort (IsStoring storing writes) = false
comes_to_abort (HasFailed storing) = false
comes_to_abort position = true

-- a copy is made by the copier
abbrev pub comes_to_copy : Progress → Bool
comes_to_copy (CopyRecords by scan) = by.who.node == copier && scan.who.node == copier
comes_to_copy (CopyMarkers by records scan) = by.who.node == copier && scan.who.node == copier
comes_to_copy (Copying by left) = by.who.node == copier
comes_to_copy (MustFence by whole) = by.who.node == copier
comes_to_copy position = true

-- a round of orphans scans as the office
abbrev pub comes_to_orphans : Progress → Bool
comes_to_orphans (OrphanScan scan) = same_incarnation scan.who the_office
comes_to_orphans position = true

abbrev pub comes_to : Command → Progress → Bool
comes_to (commands.Begin uuid node) position = comes_to_begin position
comes_to commands.Abort position = comes_to_abort position
comes_to (commands.Orphans key) position = comes_to_orphans position
comes_to commands.Backup position = comes_to_copy position
comes_to command position = true
