-- Where no call at the door failed, no line tells that something did.
use Rattle.std.proofs.Common.{◌≡◌, ℕ, not, refl, ap, subst, eqb}
use Rattle.std.specs.Prelude.{IsFalse, IsTrue, Some}
use Rattle.std.specs.List.{list_any}
use Rattle.std.proofs.lemmas.Bool.{false_from_ne_true, false≢true}
use Rattle.aft_model.specs.declared.reply.Judged.{Judged}
use Rattle.aft_model.specs.declared.reply.Reply.{Reply}
use Rattle.aft_model.specs.declared.reply.Reply.TheVariants as replies
use Rattle.aft_model.specs.declared.reply.Verdict.{Verdict}
use Rattle.aft_model.specs.declared.reply.Verdict.TheVariants.{Fault}
use Rattle.aft_model.specs.declared.script.Line.{Line}
use Rattle.aft_model.specs.Honest.{Honest}
use Rattle.aft_model.specs.Opening.{has_failed}
use Rattle.aft_model.specs.ScanRun.{same_line}
use Rattle.aft_model.proofs.Histories.{In, any_found, any_from}
use Rattle.aft_lines.specs.Asked.{Asked, Ran}
use Rattle.aft_lines.specs.FinishedText.{answers_of, line_of}
use Rattle.aft_lines.specs.Headline.{tells_loss}
use Rattle.aft_lines.specs.LegalTrace.{LegalTrace}
use Rattle.aft_lines.specs.Lines.{lines}
use Rattle.law_claims.proofs.Scenes.{by_itself}
use Rattle.law_losses.proofs.Entries.{of_line}
use Rattle.law_losses.proofs.Faults.{counts_no_fault, never_in_doubt, no_store_fault, none_at_fault}
use Rattle.law_headline.specs.Failing.{is_at_fault, tells_failure}
use Rattle.law_headline.proofs.Gets.{gets_keep}

is_fault : (verdict : Verdict) → IsTrue (is_at_fault verdict) → verdict ≡ Fault
is_fault Fault is = refl
is_fault verdict is = absurd (false≢true is)

module _ (asked : Asked) (ran : Ran) (legal : LegalTrace asked ran) (honest : Honest ran.trace.door) (unfailed : IsFalse (has_failed ran.trace.door)) (line : Line) (listed : In line (lines asked)) where
  keeps : (reply : Reply) → In reply (answers_of (line_of line) ran) → IsTrue (not (tells_loss (Some reply)))
  keeps reply among =
      of_line asked ran legal honest (gets_keep asked ran legal honest) (line_of line) (any_from (λ (l : Line). same_line (line_of l) (line_of line)) line (lines asked) listed (by_itself (line_of line))) (Some reply)
      (λ other is. subst (λ (r : Reply). In r (answers_of (line_of line) ran)) (let e : reply ≡ other = cc in e) among)

  pub tells_none : (reply : Reply) → In reply (answers_of (line_of line) ran) → IsFalse (tells_failure reply)
  tells_none replies.StoreFault among = absurd (no_store_fault asked ran legal unfailed line listed among)
  tells_none replies.InDoubt among = absurd (never_in_doubt asked ran legal unfailed line listed among)
  tells_none (replies.Missing id) among = absurd (false≢true (keeps (replies.Missing id) among))
  tells_none (replies.Damaged name) among = absurd (false≢true (keeps (replies.Damaged name) among))
  tells_none (replies.Collected judged) among = false_from_ne_true (list_any (λ (one : Judged). is_at_fault one.verdict) judged) (λ has.
      let found = any_found (λ (one : Judged). is_at_fault one.verdict) judged has in
      none_at_fault asked ran legal unfailed line listed judged found.0 among found.1 (is_fault found.0.verdict found.2))
  tells_none (replies.Orphans deleted kept held fault) among = ap (λ (n : ℕ). not (eqb n 0)) (counts_no_fault asked ran legal unfailed line listed deleted kept held fault among)
  tells_none reply among = refl
