-- The commands whose positions aren't told apart: of those a line just goes along, and its turns are judged at its answer.
use Rattle.std.specs.Prelude.{Bool, false, true}
use Rattle.aft_model.specs.declared.script.Command.{Command}
use Rattle.aft_model.specs.declared.script.Command.TheVariants as commands

abbrev pub is_along : Command → Bool
is_along (commands.Begin uuid node) = false
is_along (commands.Forget uuid node) = false
is_along (commands.Get key) = false
is_along commands.Commit = false
is_along commands.Abort = false
is_along (commands.Start node) = false
is_along (commands.Orphans key) = false
is_along commands.Backup = false
is_along command = true
