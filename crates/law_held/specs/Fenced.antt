-- A run so far in which a crash that is on its way has fenced the copier of a copy: what a crash fences isn't told before it is over.
use Rattle.std.specs.Prelude.{None, Some, [], ◌∷◌}
use Rattle.aft_model.specs.declared.door.DoorAct.TheVariants as doors
use Rattle.aft_model.specs.declared.script.Command.TheVariants as commands
use Rattle.aft_model.specs.declared.script.Line.{Line}
use Rattle.aft_model.specs.Opening.{opening}
use Rattle.aft_model.specs.Sound.{markers_prefix, records_prefix}
use Rattle.aft_lines.specs.Asked.{Asked, Ran}
use Rattle.aft_lines.specs.BackupCourse.{copier}
use Rattle.aft_lines.specs.FinishedText.{line_of}
use Rattle.law_held.specs.Twice.{page}

-- a copy, and a crash of node 1
abbrev pub its_copy : Line
its_copy = record { number = 1; client = 1; order = commands.Backup }

abbrev pub its_crash : Line
its_crash = record { number = 2; client = 2; order = commands.Crash 1 }

abbrev pub fencing : Asked
fencing = record {
  script = record { lines = its_copy ∷ its_crash ∷ [] };
  order = Some (record { words = [] });
  asks = [];
  settings = record { nodes = 1; cache = 1; mailbox = 1; rounds = 0 };
  clock = None;
}

-- the office finds nothing, and opens the door; the copier comes up; and the crash fences it
abbrev pub fencing_ran : Ran
fencing_ran = record {
  trace = record {
    door =
        page opening records_prefix []
        ∷ page opening markers_prefix []
        ∷ record { by = opening; act = doors.Opened }
        ∷ record { by = line_of its_copy; act = doors.Up copier 1 }
        ∷ record { by = line_of its_crash; act = doors.Fence copier 1 }
        ∷ [];
    nodes = [] ∷ [];
    office = [];
  };
  mail = [] ∷ [] ∷ [];
}
