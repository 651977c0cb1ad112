-- The desk of the office at a moment of a run: what each round of orphans holds.
use Rattle.std.specs.Prelude.{Bool, IsTrue, List, None, Option, Some, [], not, ℕ, ◌&&◌, ◌==◌}
use Rattle.std.specs.List.{list_all, list_any}
use Rattle.aft_model.specs.declared.caller.By.{By}
use Rattle.aft_model.specs.declared.script.Command.{Command}
use Rattle.aft_model.specs.declared.script.Command.TheVariants.{Orphans}
use Rattle.aft_model.specs.declared.script.Line.{Line}
use Rattle.aft_model.specs.History.{each_after}
use Rattle.aft_model.specs.ScanRun.{same_line}
use Rattle.aft_lines.specs.Advance.{leads_to}
use Rattle.aft_lines.specs.Asked.{Asked}
use Rattle.aft_lines.specs.CourseWords.{Ends}
use Rattle.aft_lines.specs.FinishedText.{line_of}
use Rattle.aft_lines.specs.Holding.{held_at}
use Rattle.aft_lines.specs.LegalTrace.{is_numbered_behind}
use Rattle.aft_lines.specs.Lines.{lines}
use Rattle.aft_lines.specs.Progress.{AtDesk}
use Rattle.aft_lines.specs.Steps.{Made, own_steps}
use Rattle.aft_lines.specs.Turns.{Turn}
use Rattle.law_claims.specs.Moments.{Asking, or_not_begun}

-- what a round of orphans holds for the office behind its turns
abbrev pub desk_of_turns : List ℕ → Ends → List Turn → Option Command → Option AtDesk
desk_of_turns nodes ends line (Some (Orphans key)) = held_at (or_not_begun (leads_to (Orphans key) nodes ends line))
desk_of_turns nodes ends line command = None

-- the same behind some steps
abbrev pub desk_of : Asking → List Made → By → Option AtDesk
desk_of asking made by = desk_of_turns asking.nodes (asking.ends by) (own_steps by made) (asking.command by)

-- whether a line is another than each of some others: of another client, or of another number
abbrev pub is_another : List Line → Line → Bool
is_another before line = not (list_any (λ other. same_line (line_of other) (line_of line)) before)

-- whether no two lines of a run are the same
abbrev pub LinesDiffer : Asked → Type 0
LinesDiffer asked = IsTrue (each_after is_another [] (lines asked))

-- whether the lines of a script are numbered so, each behind those before it, and none of them is of client 0
abbrev pub is_script : List Line → Bool
is_script lines = each_after is_numbered_behind [] lines && list_all (λ line. not (line.client == 0)) lines
