-- What a run that was done prints: a line for each line of its script, with its reply.
use Rattle.std.specs.Prelude.{List, None, Option, Some, [], if◌then◌else◌, ℕ, ◌++◌, ◌∷◌}
use Rattle.std.specs.Fmt.{decimal}
use Rattle.std.specs.List.{filter_map, flat_map}
use Rattle.aft_model.specs.declared.caller.By.{By}
use Rattle.aft_model.specs.declared.reply.Reply.{Reply}
use Rattle.aft_model.specs.declared.script.Line.{Line}
use Rattle.aft_model.specs.declared.script.Script.{Script}
use Rattle.aft_model.specs.ReplyText.{reply_text, spaced}
use Rattle.aft_model.specs.ScanRun.{same_line}
use Rattle.aft_lines.specs.Asked.{Asked, Ran}

-- whose line a line of a script is
abbrev pub line_of : Line → By
line_of line = record { client = line.client; line = line.number }

-- what is printed for a line: its number, its client and the reply, and a line feed; without a reply, nothing
abbrev pub printed_line : Line → Option Reply → List ℕ
printed_line line (Some reply) = spaced (decimal line.number ∷ decimal line.client ∷ reply_text reply ∷ []) ++ 10 ∷ []
printed_line line None = []

-- what is printed for a script, in the order of its lines, given the reply to each
abbrev pub finished_text : Script → (By → Option Reply) → List ℕ
finished_text script reply_to = flat_map (λ line. printed_line line (reply_to (line_of line))) script.lines

-- what an entry of a line answers, if it is of this line
abbrev pub answer_to : By → By → Option Reply → Option Reply
answer_to by own answer = if same_line by own then answer else None

-- what the entries of the nodes, and then those of the office, answer a line
abbrev pub answers_of : By → Ran → List Reply
answers_of by ran =
    flat_map (λ entries. filter_map (λ entry. answer_to by entry.by entry.answer) entries) ran.trace.nodes
    ++ filter_map (λ entry. answer_to by entry.by entry.answer) ran.trace.office

-- the one reply of a list that has exactly one
abbrev pub the_one : List Reply → Option Reply
the_one (reply ∷ []) = Some reply
the_one replies = None

-- what a run prints, once it is done; a line without exactly one answer prints nothing
abbrev pub printed : Asked → Ran → List ℕ
printed asked ran = finished_text asked.script (λ by. the_one (answers_of by ran))
