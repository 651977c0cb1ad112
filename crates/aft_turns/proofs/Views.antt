-- A line as it ran, with what is known of it put in.
use Rattle.std.proofs.Common.{◌≡◌, ℕ, List, sym, subst}
use Rattle.aft_model.specs.declared.caller.Hold.{Hold}
use Rattle.aft_model.specs.declared.script.Command.{Command}
use Rattle.aft_lines.specs.LineView.{LineView}
use Rattle.aft_lines.specs.Turns.{Turn}
use Rattle.aft_turns.specs.Stands.{RanSo}
use Rattle.aft_turns.specs.Trail.{Trail}

-- a line with these words and turns
abbrev pub with_words : Command → Hold → List Turn → LineView → LineView
with_words command hold turns view = record view { command = command; hold = hold; turns = turns }

-- what holds of the line with the words and turns that it has holds of the line
pub by_words : (P : LineView → Type 0) (command : Command) (hold : Hold) (capacity : ℕ) (trail : Trail) (view : LineView) (turns : List Turn) → RanSo command hold capacity trail view → trail.turns ≡ turns → P (with_words command hold turns view) → P view
by_words P command hold capacity trail view turns ran are holds =
    subst (λ (c : Command). P (with_words c view.hold view.turns view)) (sym ran.asked)
    (subst (λ (h : Hold). P (with_words command h view.turns view)) (sym ran.held)
    (subst (λ (ts : List Turn). P (with_words command hold ts view)) (sym ran.turns)
    (subst (λ (ts : List Turn). P (with_words command hold ts view)) (sym are) holds)))
