-- Which lines are shown nothing at the door but records and markers that they ask for by name.
use Rattle.std.specs.Prelude.{Bool, false, true}
use Rattle.aft_model.specs.declared.script.Command.{Command}
use Rattle.aft_model.specs.declared.script.Command.TheVariants as commands

-- whether lines of a command get nothing but records and markers, and judge no page: begins, forgets and rounds of orphans, and those that ask the store nothing
abbrev pub looks_at_ids : Command → Bool
looks_at_ids (commands.Begin uuid node) = true
looks_at_ids (commands.Forget uuid node) = true
looks_at_ids (commands.Orphans key) = true
looks_at_ids (commands.Put key value) = true
looks_at_ids (commands.Crash node) = true
looks_at_ids (commands.Announce node) = true
looks_at_ids (commands.Deliver node) = true
looks_at_ids (commands.Local node) = true
looks_at_ids command = false
