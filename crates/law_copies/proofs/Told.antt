-- Damage is told by gets alone.
use Rattle.std.proofs.Common.{◌≡◌, ℕ, List, refl, subst, sym}
use Rattle.std.specs.Prelude.{IsTrue, Some}
use Rattle.std.proofs.lemmas.Bool.{false≢true}
use Rattle.aft_model.specs.declared.reply.Reply.TheVariants as replies
use Rattle.aft_model.specs.declared.script.Command.{Command}
use Rattle.aft_model.specs.declared.script.Command.TheVariants as commands
use Rattle.aft_model.specs.declared.script.Line.{Line}
use Rattle.aft_model.specs.Honest.{Honest}
use Rattle.aft_model.proofs.Histories.{In}
use Rattle.aft_lines.specs.Asked.{Asked, Ran}
use Rattle.aft_lines.specs.FinishedText.{answers_of, line_of}
use Rattle.aft_lines.specs.LegalTrace.{LegalTrace}
use Rattle.aft_lines.specs.Lines.{lines}
use Rattle.law_runs.specs.Runs.{line_among}
use Rattle.law_damage.specs.Paging.{gets_versions, is_get}
use Rattle.law_damage.proofs.Told.{told_of_versions}
use Rattle.law_copies.proofs.Undamaged.{tells_none}

pub told_by_gets : (asked : Asked) (ran : Ran) (line : Line) (name : List ℕ) → LegalTrace asked ran → Honest ran.trace.door → In line (lines asked) → line_among (line_of line) (lines asked) ≡ Some line → In (replies.Damaged name) (answers_of (line_of line) ran) → IsTrue (is_get line.order)
told_by_gets asked ran line name legal honest listed first among = by_command line.order refl (told_of_versions asked ran line name legal honest listed first among)
  where
    by_command : (command : Command) → line.order ≡ command → IsTrue (gets_versions line.order) → IsTrue (is_get line.order)
    by_command (commands.Get key) is versions = subst (λ c. IsTrue (is_get c)) (sym is) refl
    by_command commands.Backup is versions = absurd (tells_none asked ran legal honest line listed is name among)
    by_command command is versions = absurd (false≢true (subst (λ c. IsTrue (gets_versions c)) is versions))
