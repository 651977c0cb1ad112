-- No get of a legal trace of a store that keeps what it acknowledged tells of a loss.
use Rattle.std.proofs.Common.{◌≡◌, Bool, ◌||◌, refl, subst, sym}
use Rattle.std.specs.Prelude.{IsTrue, Some, not}
use Rattle.std.specs.List.{list_all}
use Rattle.std.proofs.lemmas.Bool.{or_right}
use Rattle.aft_model.specs.declared.script.Command.{Command}
use Rattle.aft_model.specs.declared.script.Command.TheVariants.{Get}
use Rattle.aft_model.specs.declared.script.Line.{Line}
use Rattle.aft_model.specs.Honest.{Honest}
use Rattle.aft_model.proofs.Histories.{In}
use Rattle.aft_model.proofs.Lists.{all_from}
use Rattle.aft_lines.specs.Asked.{Asked, Ran}
use Rattle.aft_lines.specs.FinishedText.{answers_of, line_of}
use Rattle.aft_lines.specs.Headline.{tells_loss}
use Rattle.aft_lines.specs.LegalTrace.{LegalTrace}
use Rattle.aft_lines.specs.Lines.{lines}
use Rattle.law_held.specs.Standing.{is_get}
use Rattle.law_gets.proofs.Losses.{loses_none}
use Rattle.law_losses.specs.Gets.{GetsLoseNothing}

pub gets_keep : (asked : Asked) (ran : Ran) → LegalTrace asked ran → Honest ran.trace.door → GetsLoseNothing asked ran
gets_keep asked ran legal honest = all_from _ (lines asked) (λ line listed. by_order line listed line.order refl)
  where
    keeps : Line → Command → Bool
    keeps line order = not (is_get order) || list_all (λ reply. not (tells_loss (Some reply))) (answers_of (line_of line) ran)

    by_order : (line : Line) → In line (lines asked) → (order : Command) → line.order ≡ order → IsTrue (keeps line line.order)
    by_order line listed (Get key) is = or_right _ _ (loses_none asked ran legal honest line listed key is)
    by_order line listed order is = subst (λ (o : Command). IsTrue (keeps line o)) (sym is) refl
