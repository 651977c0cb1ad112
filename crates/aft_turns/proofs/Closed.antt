-- The end of a line by a turn at its attempt's node.
use Rattle.std.proofs.Common.{◌≡◌, ℕ, Bool, true, false, ◌&&◌, ◌||◌, not, List, refl}
use Rattle.std.specs.Prelude.{IsTrue, None, Option, Some, is_some, if◌then◌else◌, ◌==◌}
use Rattle.std.proofs.lemmas.Bool.{eq-eqb, false≢true}
use Rattle.aft_model.specs.declared.caller.Attempt.{Attempt}
use Rattle.aft_model.specs.declared.node.NodeAct.{NodeAct}
use Rattle.aft_model.specs.declared.node.NodeEntry.{NodeEntry}
use Rattle.aft_model.specs.declared.reply.Reply.{Reply}
use Rattle.aft_model.specs.NodeState.{node_state}
use Rattle.aft_lines.specs.Advance.{closed_by, is_led_to_end}
use Rattle.aft_lines.specs.CourseWords.{Ends, answers_down}
use Rattle.aft_lines.specs.Progress.{IsOver, Progress, Stopped}
use Rattle.aft_lines.specs.Turns.{AtNode}

-- an end is a position
pub led_is_some : (position : Option Progress) → IsTrue (is_led_to_end position) → IsTrue (is_some position)
led_is_some (Some p) led = refl
led_is_some None led = led

-- a turn at the attempt's node that passes the test ends the line, or one that tells alone that the node is down, where it has left the incarnation
pub closes_line : (ends : Ends) (a : Attempt) (test : NodeAct → Option Reply → Bool) (at : ℕ) (before : List NodeEntry) (entry : NodeEntry) → a.node ≡ at → IsTrue (test entry.act entry.answer || answers_down entry.act entry.answer && ends.is_left a.inc (node_state before)) → IsTrue (is_led_to_end (closed_by ends a test (AtNode at before entry)))
closes_line ends a test at before entry here closes =
    by_tests (a.node == at) (test entry.act entry.answer) (answers_down entry.act entry.answer && ends.is_left a.inc (node_state before)) (eq-eqb a.node at here) closes
  where
    by_tests : (here passed down : Bool) → IsTrue here → IsTrue (passed || down) → IsTrue (is_led_to_end (if not here then None else if passed then Some IsOver else if down then Some (Stopped a) else None))
    by_tests true true down is some = refl
    by_tests true false true is some = refl
    by_tests true false false is some = some
    by_tests false passed down is some = absurd (false≢true is)
