-- What is left of a course: which turns lead from a position to the line's end.
use Rattle.std.specs.Prelude.{Bool, List, Option, Some, ℕ}
use Rattle.std.specs.List.{fold}
use Rattle.aft_model.specs.declared.script.Command.{Command}
use Rattle.aft_lines.specs.Advance.{advance, advanced, is_led_to_end}
use Rattle.aft_lines.specs.CourseWords.{Ends}
use Rattle.aft_lines.specs.Progress.{Progress}
use Rattle.aft_lines.specs.Turns.{Turn}

-- whether turns lead from where a line has come, if it has come somewhere, to its end
abbrev pub leads_on : Command → List ℕ → Ends → Option Progress → List Turn → Bool
leads_on command nodes ends position line = is_led_to_end (fold (advanced (advance command nodes ends)) position line)

-- whether turns lead from a position to the line's end
abbrev pub leads_from : Command → List ℕ → Ends → Progress → List Turn → Bool
leads_from command nodes ends position line = leads_on command nodes ends (Some position) line
