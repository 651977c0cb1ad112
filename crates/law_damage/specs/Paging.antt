-- Which lines are shown nothing at the door but pages of the records and the markers, and which are shown versions.
use Rattle.std.specs.Prelude.{Bool, false, true}
use Rattle.aft_model.specs.declared.script.Command.{Command}
use Rattle.aft_model.specs.declared.script.Command.TheVariants as commands

-- whether lines of a command are shown pages of records and markers alone: starts, rounds of the manager, and collections
abbrev pub looks_at_pages : Command → Bool
looks_at_pages (commands.Start node) = true
looks_at_pages commands.Manager = true
looks_at_pages commands.Collect = true
looks_at_pages command = false

-- whether lines of a command get versions: gets and copies
abbrev pub gets_versions : Command → Bool
gets_versions (commands.Get key) = true
gets_versions commands.Backup = true
gets_versions command = false

-- whether a command is a get
abbrev pub is_get : Command → Bool
is_get (commands.Get key) = true
is_get command = false
