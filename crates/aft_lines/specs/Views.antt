-- The lines of a run as they ran, and whether each has the cause of what it answered.
use Rattle.std.specs.Prelude.{Bool, IsTrue, List, None, Option, Some, map, take, ℕ, ◌==◌}
use Rattle.std.specs.List.{before_first, last_or, list_all}
use Rattle.aft_model.specs.declared.caller.By.{By}
use Rattle.aft_model.specs.declared.reply.Reply.{Reply}
use Rattle.aft_model.specs.declared.script.Line.{Line}
use Rattle.aft_model.specs.declared.trace.Trace.{Trace}
use Rattle.aft_model.specs.Opening.{opening}
use Rattle.aft_lines.specs.Asked.{Asked, Ran}
use Rattle.aft_lines.specs.Causes.{cause, may_leave_out}
use Rattle.aft_lines.specs.FinishedText.{answers_of, line_of}
use Rattle.aft_lines.specs.LinePosts.{posts_of}
use Rattle.aft_lines.specs.LineView.{LineView}
use Rattle.aft_lines.specs.Lines.{earlier_lines, hold_before, lines, whole_order}
use Rattle.aft_lines.specs.Turns.{end_front, turns}

-- the line of the same client before a line
abbrev pub line_before : List Line → Line → Option Line
line_before lines line = last_or None (earlier_lines lines line)

-- how much of the door's history a client's answer before had seen, or where it had none, the last boot of the opening
abbrev pub answered_front : Trace → Option Line → ℕ
answered_front trace None = end_front (turns opening trace)
answered_front trace (Some before) = end_front (turns (line_of before) trace)

-- the lines that ran before a line, where lines run whole
abbrev pub ran_earlier : Line → Option (List Line) → Option (List By)
ran_earlier line None = None
ran_earlier line (Some order) = Some (map line_of (before_first (λ other. other.number == line.number) order))

-- a line as it ran, among these lines
abbrev pub view_among : List Line → Option (List Line) → Asked → Ran → Line → LineView
view_among all order asked ran line = record {
  by = line_of line;
  command = line.order;
  hold = hold_before all ran.trace line;
  settings = asked.settings;
  clock = asked.clock;
  turns = turns (line_of line) ran.trace;
  posts = posts_of (line_of line) line.order ran.mail;
  since = answered_front ran.trace (line_before all line);
  seen = take (end_front (turns (line_of line) ran.trace)) ran.trace.door;
  nodes = ran.trace.nodes;
  before = ran_earlier line order;
}

-- a line of a run as it ran
abbrev pub view_of : Asked → Ran → Line → LineView
view_of asked ran line = view_among (lines asked) (whole_order asked) asked ran line

-- whether each line of a run passes a test of how it ran
abbrev pub each_view : (LineView → Bool) → Asked → Ran → Bool
each_view test asked ran = list_all (λ line. test (view_of asked ran line)) (lines asked)

-- whether each line has the cause of what it answered
abbrev pub have_causes : Asked → Ran → Bool
have_causes asked ran = list_all (λ line. list_all (cause (view_of asked ran line)) (answers_of (line_of line) ran)) (lines asked)

-- whether no line leaves this reply out where it should have answered it
abbrev pub is_left_out_rightly : Asked → Ran → Reply → Bool
is_left_out_rightly asked ran other = list_all (λ line. list_all (λ reply. may_leave_out (view_of asked ran line) reply other) (answers_of (line_of line) ran)) (lines asked)

-- a run in which each line answers what comes exactly where its cause is
abbrev pub LeavesOutNothing : Asked → Ran → Type 0
LeavesOutNothing asked ran = (other : Reply) → IsTrue (is_left_out_rightly asked ran other)
