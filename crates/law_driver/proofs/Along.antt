-- A line whose turns are right goes along.
use Rattle.std.proofs.Common.{◌≡◌, ◌<◌, ℕ, Bool, true, ◌||◌, not, sym, subst, inl, inr, arith, ap, eqb}
use Rattle.std.specs.Prelude.{IsFalse, IsTrue}
use Rattle.std.proofs.lemmas.Bool.{and_parts, cases_Bool, eqb-true, or_left, or_right}
use Rattle.aft_model.specs.declared.caller.By.{By}
use Rattle.aft_model.specs.declared.script.Line.{Line}
use Rattle.aft_model.specs.Opening.{opening}
use Rattle.aft_model.specs.ScanRun.{same_line}
use Rattle.aft_lines.specs.Asked.{Asked, Ran}
use Rattle.aft_lines.specs.CausesAttempts.{speaks_of_attempt}
use Rattle.aft_lines.specs.FinishedText.{line_of}
use Rattle.aft_lines.specs.LegalTrace.{named_node, stands_at, turn_of, turn_words}
use Rattle.aft_lines.specs.LineView.{LineView}
use Rattle.aft_lines.specs.Lines.{hold_before, lines}
use Rattle.aft_lines.specs.Makes.{makes}
use Rattle.aft_lines.specs.RunsSoFar.{is_stopped_rightly, position_of}
use Rattle.aft_lines.specs.Turns.{Turn}
use Rattle.aft_turns.specs.Stands.{GoesRightly, is_right}
use Rattle.law_accounts.proofs.Lists.{all_so}
use Rattle.law_accounts.proofs.Views.{hold_same}
use Rattle.law_accounts.specs.Account.{GoesAlong}
use Rattle.law_accounts.specs.Adding.{Added, maker_of, with_added}
use Rattle.law_driver.proofs.Rights.{right_parts}

-- who goes rightly, and has seen why it stopped, goes along
pub goes_along : (view : LineView) → GoesRightly view → IsTrue (is_stopped_rightly view.seen view.turns (position_of view)) → GoesAlong view
goes_along view goes stopped = record {
  leads = goes.leads;
  stopped = stopped;
  makes = all_so (is_right view.command view.hold) (makes view.command) (λ turn is. (right_parts view.command view.hold turn is).0) view.turns goes.right;
  words = all_so (is_right view.command view.hold) (turn_words view.command) (λ turn is. (right_parts view.command view.hold turn is).1) view.turns goes.right;
  places = all_so (is_right view.command view.hold) (stands_at (named_node view.command view.hold)) (λ turn is. (right_parts view.command view.hold turn is).2) view.turns goes.right;
  speaks = elim (cases_Bool (speaks_of_attempt view.command)) [
    | inl speaks ↦ or_right _ _ (all_so (is_right view.command view.hold) (turn_of view.hold.attempt) (λ turn is. spoken turn speaks (right_parts view.command view.hold turn is).3) view.turns goes.right)
    | inr silent ↦ or_left _ _ (ap not silent)
  ];
}
  where
    spoken : (turn : Turn) → speaks_of_attempt view.command ≡ true → IsTrue (not (speaks_of_attempt view.command) || turn_of view.hold.attempt turn) → IsTrue (turn_of view.hold.attempt turn)
    spoken turn speaks is = subst (λ (b : Bool). IsTrue (not b || turn_of view.hold.attempt turn)) speaks is

-- a line of a lesser number is another
pub lesser_differs : (other line : Line) → other.number < line.number → IsFalse (same_line (line_of other) (line_of line))
lesser_differs other line below = elim (cases_Bool (same_line (line_of other) (line_of line))) [
  | inl same ↦ (let its = eqb-true other.number line.number (and_parts (eqb other.client line.client) (eqb other.number line.number) same).1 in absurd (less other.number line.number below its))
  | inr apart ↦ apart
]
  where
    less : (a b : ℕ) → a < b → a ≡ b → ⊥
    less a b lt e = omega arith

-- what its client holds stays as it is while it adds entries itself
pub own_hold_same : (asked : Asked) (ran : Ran) (line : Line) (added : Added) → maker_of added ≡ line_of line → IsFalse (same_line opening (line_of line)) → hold_before (lines asked) (with_added added ran).trace line ≡ hold_before (lines asked) ran.trace line
own_hold_same asked ran line added by stranger =
    hold_same asked ran added line (λ other client below. subst (λ (b : By). IsFalse (same_line (line_of other) b)) (sym by) (lesser_differs other line below)) (subst (λ (b : By). IsFalse (same_line opening b)) (sym by) stranger)
