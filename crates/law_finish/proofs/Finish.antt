-- The turns of a commit and of an abort, from the first one on.
use Rattle.std.proofs.Common.{◌≡◌, ℕ, Bool, true, false, ◌&&◌, List, [], ◌∷◌, refl, sym, ap, ◌∙◌}
use Rattle.std.specs.Prelude.{Option, Some, None}
use Rattle.aft_records.specs.declared.stored.Commit.{Commit}
use Rattle.aft_model.specs.declared.caller.Attempt.{Attempt}
use Rattle.aft_model.specs.declared.node.NodeAct.{NodeAct}
use Rattle.aft_model.specs.declared.node.NodeAct.TheVariants as acts
use Rattle.aft_model.specs.declared.node.NodeEntry.{NodeEntry}
use Rattle.aft_model.specs.Attempts.{attempt_state, buffer, fixed_commit, uuid_of}
use Rattle.aft_model.specs.NodeState.{part}
use Rattle.aft_lines.specs.Advance.{advance, finished_with, is_led_to_end, leads_to, settled_with}
use Rattle.aft_lines.specs.CommitCourse.{finish_after, finish_course, leaves, settles, storing_of}
use Rattle.aft_lines.specs.CourseWords.{Ends}
use Rattle.aft_lines.specs.Progress.{IsOver, MustLeave, Progress, Stopped}
use Rattle.aft_lines.specs.Turns.{AtDoor, AtNode, AtOffice, Turn}
use Rattle.law_courses.proofs.Ends.{led, led-if, led-none, led-over}
use Rattle.law_finish.specs.Finishing.{finishing}
use Rattle.law_finish.proofs.Storing.{IsFinishStep, leaving, puts, settling}

module _ (nodes : List ℕ) (ends : Ends) where
  abbrev pub step : Bool → Progress → Turn → Option Progress
  step aborts = advance (finishing aborts) nodes ends

  pub over : (aborts : Bool) (turn : Turn) → step aborts IsOver turn ≡ None
  over true turn = refl
  over false turn = refl

  pub stopped : (aborts : Bool) (a : Attempt) (turn : Turn) → step aborts (Stopped a) turn ≡ None
  stopped true a turn = refl
  stopped false a turn = refl

  pub is_finish : (aborts : Bool) → IsFinishStep ends (step aborts)
  is_finish true = record {
    settling = λ aborts storing turn. refl;
    storing = λ storing writes turn. refl;
    failed = λ storing turn. refl;
    recorded = λ storing turn. refl;
    node_stored = λ storing turn. refl;
    none_found = λ storing turn. refl;
    must_doubt = λ storing turn. refl;
    must_leave = λ aborts a uuid turn. refl;
    must_end = λ a outcome turn. refl;
  }
  is_finish false = record {
    settling = λ aborts storing turn. refl;
    storing = λ storing writes turn. refl;
    failed = λ storing turn. refl;
    recorded = λ storing turn. refl;
    node_stored = λ storing turn. refl;
    none_found = λ storing turn. refl;
    must_doubt = λ storing turn. refl;
    must_leave = λ aborts a uuid turn. refl;
    must_end = λ a outcome turn. refl;
  }

  module _ (aborts : Bool) where
    abbrev at : Option Progress → List Turn → Bool
    at position line = led (step aborts) (over aborts) (stopped aborts) position line

    settled_on : (a : Attempt) (its : List NodeEntry) (fixed : Option Commit) (line : List Turn) → at (settled_with aborts a its fixed) line ≡ settles aborts ends a its fixed line
    settled_on a its None line = led-none (step aborts) (over aborts) (stopped aborts) line
    settled_on a its (Some c) line = settling ends (step aborts) (over aborts) (stopped aborts) (is_finish aborts) (storing_of a its c) aborts line

  by_act : (aborts : Bool) (its : List NodeEntry) (act : NodeAct) (line : List Turn) → at aborts (finished_with aborts its act) line ≡ finish_after aborts ends its act line
  by_act aborts its acts.Nothing line = led-over (step aborts) (over aborts) (stopped aborts) line
  by_act aborts its (acts.Leave a) line =
      led-if (step aborts) (over aborts) (stopped aborts) (leaves aborts (buffer a its)) (MustLeave aborts a (uuid_of a its)) line
      ∙ ap (λ (b : Bool). leaves aborts (buffer a its) && b) (leaving ends (step aborts) (over aborts) (stopped aborts) (is_finish aborts) aborts a (uuid_of a its) line)
  by_act false its (acts.Start a now c) line = puts ends (step false) (over false) (stopped false) (is_finish false) (storing_of a its c) (buffer a its) line
  by_act true its (acts.Start a now c) line = led-none (step true) (over true) (stopped true) line
  by_act aborts its (acts.Settle a) line = settled_on aborts a its (fixed_commit (attempt_state a its)) line
  by_act aborts its act line = led-none (step aborts) (over aborts) (stopped aborts) line

  pub finish_led : (aborts : Bool) (line : List Turn) → finish_course aborts ends line ≡ is_led_to_end (leads_to (finishing aborts) nodes ends line)
  finish_led aborts [] = refl
  finish_led true (AtNode node before entry ∷ line) = sym (by_act true (part before) entry.act line)
  finish_led false (AtNode node before entry ∷ line) = sym (by_act false (part before) entry.act line)
  finish_led true (AtDoor place act ∷ line) = sym (led-none (step true) (over true) (stopped true) line)
  finish_led false (AtDoor place act ∷ line) = sym (led-none (step false) (over false) (stopped false) line)
  finish_led true (AtOffice before entry ∷ line) = sym (led-none (step true) (over true) (stopped true) line)
  finish_led false (AtOffice before entry ∷ line) = sym (led-none (step false) (over false) (stopped false) line)
