-- Damage is told by gets and copies alone.
use Rattle.std.proofs.Common.{◌≡◌, ℕ, Bool, true, false, List, refl, subst, sym}
use Rattle.std.specs.Prelude.{IsTrue, Option, Some}
use Rattle.std.specs.List.{list_all}
use Rattle.std.proofs.lemmas.Bool.{and_parts, false≢true}
use Rattle.aft_id.specs.declared.txn_id.TxnId.{TxnId}
use Rattle.aft_model.specs.declared.caller.Attempt.{Attempt}
use Rattle.aft_model.specs.declared.choice.Picked.TheVariants as picked
use Rattle.aft_model.specs.declared.reply.Reply.TheVariants as replies
use Rattle.aft_model.specs.declared.script.Command.{Command}
use Rattle.aft_model.specs.declared.script.Command.TheVariants as commands
use Rattle.aft_model.specs.declared.script.Line.{Line}
use Rattle.aft_model.specs.Honest.{Honest}
use Rattle.aft_model.proofs.Histories.{In, all_at}
use Rattle.aft_lines.specs.Asked.{Asked, Ran}
use Rattle.aft_lines.specs.Causes.{cause}
use Rattle.aft_lines.specs.CausesReads.{found_nothing, of_get, picks}
use Rattle.aft_lines.specs.FinishedText.{answers_of, line_of}
use Rattle.aft_lines.specs.LegalTrace.{LegalTrace}
use Rattle.aft_lines.specs.Lines.{lines}
use Rattle.aft_lines.specs.Views.{view_of}
use Rattle.law_promise.specs.Looking.{looks_at_ids}
use Rattle.law_promise.proofs.Undamaged as ids
use Rattle.law_runs.specs.Runs.{line_among}
use Rattle.law_damage.specs.Paging.{gets_versions, is_get, looks_at_pages}
use Rattle.law_damage.proofs.Judged as finishes
use Rattle.law_damage.proofs.Undamaged as pages

-- each other command looks at ids or at pages alone, or finishes an attempt
sorted : (P : Command → Type 0) → ((command : Command) → IsTrue (gets_versions command) → P command) → ((command : Command) → IsTrue (looks_at_ids command) → P command) → ((command : Command) → IsTrue (looks_at_pages command) → P command) → P commands.Commit → P commands.Abort → (command : Command) → P command
sorted P versions names listed commit abort (commands.Get key) = versions (commands.Get key) refl
sorted P versions names listed commit abort commands.Backup = versions commands.Backup refl
sorted P versions names listed commit abort (commands.Start node) = listed (commands.Start node) refl
sorted P versions names listed commit abort commands.Manager = listed commands.Manager refl
sorted P versions names listed commit abort commands.Collect = listed commands.Collect refl
sorted P versions names listed commit abort commands.Commit = commit
sorted P versions names listed commit abort commands.Abort = abort
sorted P versions names listed commit abort command = names command refl

pub told_of_versions : (asked : Asked) (ran : Ran) (line : Line) (name : List ℕ) → LegalTrace asked ran → Honest ran.trace.door → In line (lines asked) → line_among (line_of line) (lines asked) ≡ Some line → In (replies.Damaged name) (answers_of (line_of line) ran) → IsTrue (gets_versions line.order)
told_of_versions asked ran line name legal honest listed first among =
    sorted (λ command. line.order ≡ command → IsTrue (gets_versions line.order))
    (λ command so is. subst (λ c. IsTrue (gets_versions c)) (sym is) so)
    (λ command so is. absurd (ids.tells_none asked ran line legal honest listed (subst (λ c. IsTrue (looks_at_ids c)) (sym is) so) name among))
    (λ command so is. absurd (pages.tells_none asked ran legal honest line listed (subst (λ c. IsTrue (looks_at_pages c)) (sym is) so) name among))
    (λ is. absurd (finishes.tells_none asked ran legal honest line listed first false is name among))
    (λ is. absurd (finishes.tells_none asked ran legal honest line listed first true is name among)) line.order refl

-- what a line's get of a version didn't find, a get asked for
asked_by_get : (test : Attempt → List ℕ → Bool) (command : Command) (held : Option Attempt) → IsTrue (of_get test command held) → IsTrue (is_get command)
asked_by_get test (commands.Get key) held is = refl
asked_by_get test command held is = absurd (false≢true is)

pub missed_by_gets : (asked : Asked) (ran : Ran) (line : Line) (id : TxnId) → LegalTrace asked ran → In line (lines asked) → In (replies.Missing id) (answers_of (line_of line) ran) → IsTrue (is_get line.order)
missed_by_gets asked ran line id legal listed among =
    let view = view_of asked ran line in
    let caused : IsTrue (cause view (replies.Missing id)) = all_at (cause view) (replies.Missing id) (answers_of (line_of line) ran) among
    (all_at (λ (l : Line). list_all (cause (view_of asked ran l)) (answers_of (line_of l) ran)) line (lines asked) listed legal.causes) in
    asked_by_get _ line.order view.hold.attempt (and_parts (picks (picked.Fetch id) view) (found_nothing id view) caused).1
