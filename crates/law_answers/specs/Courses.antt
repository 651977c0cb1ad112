-- Lines that keep their course, by their view, and what a legal trace says of their turns beside it.
use Rattle.std.specs.Prelude.{Bool, List, None, Option, [], not, true, ℕ, ◌||◌, ◌∷◌}
use Rattle.std.specs.List.{list_all}
use Rattle.aft_model.specs.declared.reply.Reply.{Reply}
use Rattle.aft_model.specs.LegalNode.{is_legal_node, may_follow_at}
use Rattle.aft_model.specs.Office.{may_be_next}
use Rattle.aft_lines.specs.CausesAttempts.{speaks_of_attempt}
use Rattle.aft_lines.specs.LegalTrace.{act_at, named_node, stands_at, turn_of, turn_words}
use Rattle.aft_lines.specs.LineCourse.{keeps_course}
use Rattle.aft_lines.specs.LineView.{LineView, ends_of}
use Rattle.aft_lines.specs.Lines.{node_numbers}
use Rattle.aft_lines.specs.Turns.{AtDoor, AtNode, AtOffice, Turn, answer_in}

-- whether a line, as it ran, kept the course of its command
abbrev pub keeps_its_course : LineView → Bool
keeps_its_course view = keeps_course view.command (node_numbers view.settings) (ends_of view) view.turns

-- whether a turn may follow the history before it, by the rules of its node, which keeps so many values, or of the office
abbrev pub is_legal_turn : ℕ → Turn → Bool
is_legal_turn capacity (AtDoor place act) = true
is_legal_turn capacity (AtNode node before entry) = may_follow_at node capacity before entry
is_legal_turn capacity (AtOffice before entry) = may_be_next before entry

-- whether each turn of a line may follow the history before it
abbrev pub keeps_rules : LineView → Bool
keeps_rules view = list_all (is_legal_turn view.settings.cache) view.turns

-- whether a turn at a node comes behind a history that this node, which keeps so many values, may have
abbrev pub is_behind_legal : ℕ → Turn → Bool
is_behind_legal capacity (AtDoor place act) = true
is_behind_legal capacity (AtNode node before entry) = is_legal_node node capacity before
is_behind_legal capacity (AtOffice before entry) = true

-- whether each turn of a line does
abbrev pub comes_behind_legal : LineView → Bool
comes_behind_legal view = list_all (is_behind_legal view.settings.cache) view.turns

-- whether the turns of a line stand at its node
abbrev pub stands_at_its_node : LineView → Bool
stands_at_its_node view = list_all (stands_at (named_node view.command view.hold)) view.turns

-- whether its acts carry its words
abbrev pub carries_its_words : LineView → Bool
carries_its_words view = list_all (turn_words view.command) view.turns

-- whether a put, a get, a commit and an abort speak of the attempt that the client holds
abbrev pub speaks_of_its_attempt : LineView → Bool
speaks_of_its_attempt view = not (speaks_of_attempt view.command) || list_all (turn_of view.hold.attempt) view.turns

-- whether a turn that reads the clock has its time
abbrev pub reads_clock_in : Option ℕ → Turn → Bool
reads_clock_in clock (AtDoor place act) = true
reads_clock_in clock (AtNode node before entry) = act_at clock entry.act
reads_clock_in clock (AtOffice before entry) = true

-- whether each turn of a line does
abbrev pub reads_its_clock : LineView → Bool
reads_its_clock view = list_all (reads_clock_in view.clock) view.turns

-- what the last of some turns answered
abbrev pub last_answer : List Turn → Option Reply
last_answer [] = None
last_answer (turn ∷ []) = answer_in turn
last_answer (turn ∷ next ∷ line) = last_answer (next ∷ line)
