-- The own steps of a copy are its turns but for those at the office, which leave what it has up.
use Rattle.std.proofs.Common.{◌≡◌, ℕ, Bool, true, false, List, [], ◌∷◌, refl, sym, ap, subst, ◌∙◌}
use Rattle.std.specs.Prelude.{None, Option, Some, if◌then◌else◌}
use Rattle.aft_model.specs.declared.caller.By.{By}
use Rattle.aft_model.specs.declared.office.OfficeAct.{OfficeAct}
use Rattle.aft_model.specs.declared.office.OfficeEntry.{OfficeEntry}
use Rattle.aft_model.specs.declared.reply.Reply.{Reply}
use Rattle.aft_model.specs.declared.script.Command.{Command}
use Rattle.aft_model.specs.declared.script.Command.TheVariants.{Backup}
use Rattle.aft_model.specs.declared.script.Line.{Line}
use Rattle.aft_model.proofs.Histories.{In}
use Rattle.aft_lines.specs.Advance.{advance, leads_to, told_by_office}
use Rattle.aft_lines.specs.Asked.{Asked, Ran}
use Rattle.aft_lines.specs.BackupCourse.{tells_copy, tells_not_begun}
use Rattle.aft_lines.specs.CourseWords.{Ends}
use Rattle.aft_lines.specs.LineView.{ends_of}
use Rattle.aft_lines.specs.Lines.{lines, node_numbers}
use Rattle.aft_lines.specs.Progress.{Copying, HasFenced, IsOver, NotBegun, Progress}
use Rattle.aft_lines.specs.Steps.{own_steps}
use Rattle.aft_lines.specs.Turns.{AtOffice, Turn, turns}
use Rattle.aft_lines.specs.Views.{view_of}
use Rattle.law_claims.specs.Copying.{copier_at}
use Rattle.law_claims.proofs.Copying.{copier_follows}
use Rattle.law_runs.specs.Runs.{Goes, run_steps}
use Rattle.law_runs.proofs.Own.{by_line, has_come}
use Rattle.law_held.proofs.OfficeLines.{but_office, own_but_office}

module _ (nodes : List ℕ) (ends : Ends) where
  abbrev go : Progress → Turn → Option Progress
  go = advance Backup nodes ends

  abbrev OverIf : Option Progress → Type 0
  OverIf None = Unit {0}
  OverIf (Some q) = q ≡ IsOver

  told_over : (test : OfficeAct → Option Reply → Bool) (history : List OfficeEntry) (entry : OfficeEntry) → OverIf (told_by_office test (AtOffice history entry))
  told_over test history entry = cases (test entry.act entry.answer)
    where
      cases : (b : Bool) → OverIf (if b then Some IsOver else None)
      cases true = refl
      cases false = tt

  office_over : (history : List OfficeEntry) (entry : OfficeEntry) (position : Progress) → OverIf (go position (AtOffice history entry))
  office_over history entry NotBegun = told_over tells_not_begun history entry
  office_over history entry (HasFenced whole) = told_over (tells_copy whole) history entry
  office_over history entry (Copying by []) = tt
  office_over history entry (Copying by (one ∷ more)) = tt
  office_over history entry position = tt

  over_last : (history : List OfficeEntry) (entry : OfficeEntry) (position q : Progress) → go position (AtOffice history entry) ≡ Some q → q ≡ IsOver
  over_last history entry position q at = subst OverIf at (office_over history entry position)

  abbrev Any : Progress → Type 0
  Any position = Unit {0}

  left : (history : List OfficeEntry) (entry : OfficeEntry) (position q : Progress) → Any position → go position (AtOffice history entry) ≡ Some q → copier_at q ≡ copier_at position
  left history entry position q any at = (copier_follows nodes ends position q (AtOffice history entry) at).0

module _ (asked : Asked) (ran : Ran) (so : Goes asked ran) (line : Line) (among : In line (lines asked)) (copy : line.order ≡ Backup) where
  abbrev its : By
  its = by_line asked ran so line among

  abbrev its_ends : Ends
  its_ends = ends_of (view_of asked ran line)

  -- where its own steps lead it: to a position that has the same up as what its turns lead to
  pub copy_led : (q : Progress) × (leads_to Backup (node_numbers asked.settings) its_ends (own_steps its (run_steps ran)) ≡ Some q) × (copier_at q ≡ copier_at (has_come asked ran so line among).0)
  copy_led =
      let come = has_come asked ran so line among in
      let led : leads_to Backup (node_numbers asked.settings) its_ends (turns its ran.trace) ≡ Some come.0 = ap (λ (c : Command). leads_to c (node_numbers asked.settings) its_ends (turns its ran.trace)) (sym copy) ∙ come.1 in
      let same = but_office (go (node_numbers asked.settings) its_ends) copier_at (Any (node_numbers asked.settings) its_ends) (λ p q t any at. tt) (over_last (node_numbers asked.settings) its_ends) (left (node_numbers asked.settings) its_ends) (λ turn. refl) (turns its ran.trace) NotBegun come.0 tt led in
      (same.0, ap (leads_to Backup (node_numbers asked.settings) its_ends) (own_but_office asked ran so line among Backup copy (λ node history entry. refl)) ∙ same.1, same.2)
