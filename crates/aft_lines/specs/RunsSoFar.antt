-- A run so far, whose lines need not be over: the turns of each lead somewhere in its course.
use Rattle.std.specs.Prelude.{Bool, IsTrue, List, Option, Some, false, is_some, length, not, take, true, ◌&&◌, ◌==◌, ◌||◌}
use Rattle.std.specs.Cmp.Lexicographic.{pointwise}
use Rattle.std.specs.List.{list_all, list_any}
use Rattle.aft_model.specs.declared.door.DoorEntry.{DoorEntry}
use Rattle.aft_model.specs.Bytes.{HasBytes}
use Rattle.aft_model.specs.LegalDoor.{Legal}
use Rattle.aft_model.specs.Membership.{Incarnation}
use Rattle.aft_model.specs.NodeSights.{is_fenced}
use Rattle.aft_model.specs.Opening.{opening}
use Rattle.aft_lines.specs.Advance.{is_led_to_end, leads_to}
use Rattle.aft_lines.specs.Asked.{Asked, Ran}
use Rattle.aft_lines.specs.CausesRounds.{is_collect}
use Rattle.aft_lines.specs.CourseWords.{caller_of}
use Rattle.aft_lines.specs.LegalTrace.{are_legal_nodes, fits_settings, give_ups_backed, is_of_lines, makers, speak_of_held}
use Rattle.aft_lines.specs.LineCourse.{answers_last, follows_course}
use Rattle.aft_lines.specs.LineView.{LineView, ends_of}
use Rattle.aft_lines.specs.Lines.{lines, node_numbers}
use Rattle.aft_lines.specs.Makes.{makes}
use Rattle.aft_lines.specs.OpeningCourse.{opening_begins}
use Rattle.aft_lines.specs.Progress.{Progress, Stopped}
use Rattle.aft_lines.specs.Steps.{own_steps, steps}
use Rattle.aft_lines.specs.Turns.{AtDoor, AtNode, AtOffice, Turn, turns}
use Rattle.aft_lines.specs.Views.{each_view}

-- where a line has come
abbrev pub position_of : LineView → Option Progress
position_of view = leads_to view.command (node_numbers view.settings) (ends_of view) view.turns

-- whether each line has come somewhere
abbrev pub all_lead_somewhere : Asked → Ran → Bool
all_lead_somewhere asked ran = each_view (λ view. is_some (position_of view)) asked ran

-- the last turn of a line, and whether it has seen the fence of an incarnation
abbrev pub has_seen_fence : Incarnation → List DoorEntry → Turn → Bool
has_seen_fence who seen (AtNode node before entry) = is_fenced who (take entry.front seen)
has_seen_fence who seen turn = false

-- whether a line that stopped in the middle of its course has seen its incarnation fenced
abbrev pub is_stopped_rightly : List DoorEntry → List Turn → Option Progress → Bool
is_stopped_rightly seen line (Some (Stopped a)) = list_any (has_seen_fence (caller_of a) seen) line
is_stopped_rightly seen line position = true

-- whether each line that stopped so has
abbrev pub all_stopped_rightly : Asked → Ran → Bool
all_stopped_rightly asked ran = each_view (λ view. is_stopped_rightly view.seen view.turns (position_of view)) asked ran

-- whether each line has made nothing but what lines of its command make
abbrev pub all_make : Asked → Ran → Bool
all_make asked ran = each_view (λ view. list_all (makes view.command) view.turns) asked ran

-- whether each entry is of a line or of the opening, whose turns are the beginning of its course, or the whole
abbrev pub opens_so : Asked → Ran → Bool
opens_so asked ran = list_all (list_all (is_of_lines (lines asked))) (makers ran) && opening_begins (node_numbers asked.settings) (turns opening ran.trace)

-- a run so far
pub record RunsSoFar (asked : Asked) (ran : Ran) : Type 0 where
  pub settings : IsTrue (fits_settings asked.settings ran)
  pub bytes : HasBytes ran.trace.door
  pub door : Legal ran.trace.door
  pub nodes : IsTrue (are_legal_nodes 1 asked.settings.cache ran.trace.door ran.trace.nodes)
  pub opening : IsTrue (opens_so asked ran)
  pub lines : IsTrue (all_lead_somewhere asked ran)
  pub makes : IsTrue (all_make asked ran)
  pub stopped : IsTrue (all_stopped_rightly asked ran)
  pub attempts : IsTrue (speak_of_held asked ran)
  pub give_ups : IsTrue (give_ups_backed ran.trace)

-- whether two tests answer the same
abbrev pub same_answer : Bool → Bool → Bool
same_answer true b = b
same_answer false b = not b

-- whether each line that ends with its answer keeps its course just where its positions end
abbrev pub progress_is_course : Asked → Ran → Bool
progress_is_course asked ran =
    each_view (λ view. not (answers_last view.turns) || same_answer (follows_course view.command (node_numbers view.settings) (ends_of view) view.turns) (is_led_to_end (position_of view))) asked ran

-- whether two turns of a trace are the same: they stand at one place of one history
abbrev pub same_turn : Turn → Turn → Bool
same_turn (AtDoor place act) (AtDoor other more) = place == other
same_turn (AtNode node before entry) (AtNode other earlier more) = node == other && length before == length earlier
same_turn (AtOffice before entry) (AtOffice earlier more) = length before == length earlier
same_turn a b = false

-- whether the steps of a line are its turns; of a collection they may stand in another order
abbrev pub steps_are_turns : Asked → Ran → Bool
steps_are_turns asked ran = each_view (λ view. is_collect view.command || pointwise same_turn (own_steps view.by (steps ran.trace)) view.turns) asked ran

-- the same as propositions
abbrev pub ProgressIsCourse : Asked → Ran → Type 0
ProgressIsCourse asked ran = IsTrue (progress_is_course asked ran)

abbrev pub StepsAreTurns : Asked → Ran → Type 0
StepsAreTurns asked ran = IsTrue (steps_are_turns asked ran)
