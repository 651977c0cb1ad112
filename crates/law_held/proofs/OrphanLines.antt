-- The own steps of a round of orphans are its turns but for those at the office, which leave what it holds.
use Rattle.std.proofs.Common.{◌≡◌, ℕ, Bool, true, false, List, [], ◌∷◌, ◌++◌, refl, sym, ap, subst, ◌∙◌}
use Rattle.std.specs.Prelude.{IsTrue, None, Option, Some, if◌then◌else◌}
use Rattle.std.specs.List.{flat_map, fold, list_any}
use Rattle.aft_model.specs.declared.caller.By.{By}
use Rattle.aft_model.specs.declared.office.OfficeEntry.{OfficeEntry}
use Rattle.aft_model.specs.declared.script.Command.{Command}
use Rattle.aft_model.specs.declared.script.Command.TheVariants.{Orphans}
use Rattle.aft_model.specs.declared.script.Line.{Line}
use Rattle.aft_model.proofs.Histories.{In}
use Rattle.aft_lines.specs.Advance.{advance, advanced, in_round, leads_to, moved_at_desk, told_at_desk, told_by_office}
use Rattle.aft_lines.specs.Asked.{Asked, Ran}
use Rattle.aft_lines.specs.CourseWords.{Ends}
use Rattle.aft_lines.specs.Holding.{held_at}
use Rattle.aft_lines.specs.LineView.{ends_of}
use Rattle.aft_lines.specs.Lines.{lines, node_numbers}
use Rattle.aft_lines.specs.OrphanCourse.{tells_round}
use Rattle.aft_lines.specs.Progress.{AtDesk, HasLeft, Holds, InRound, IsOver, LookedOnce, LookedTwice, MustFree, MustTell, NotBegun, OrphanScan, Progress, Standing}
use Rattle.aft_lines.specs.Steps.{own_steps}
use Rattle.aft_lines.specs.Turns.{AtOffice, Turn, turns}
use Rattle.aft_lines.specs.Views.{view_of}
use Rattle.law_claims.specs.Desk.{is_desk_row}
use Rattle.law_claims.proofs.Desk.{desk_follows}
use Rattle.law_runs.specs.Runs.{Goes, run_steps}
use Rattle.law_runs.proofs.Own.{by_line, has_come}
use Rattle.law_held.proofs.OfficeLines.{Same, but_office, kinds, own_but_office}

-- ---- what a round holds

module _ (key nodes : List ℕ) (ends : Ends) where
  abbrev go : Progress → Turn → Option Progress
  go = advance (Orphans key) nodes ends

  -- a turn at the office is its last
  none_moved : (history : List OfficeEntry) (entry : OfficeEntry) (standing : Standing) → moved_at_desk (AtOffice history entry) standing ≡ []
  none_moved history entry (HasLeft left) = refl
  none_moved history entry (Holds held) = refl
  none_moved history entry (LookedOnce held) = refl
  none_moved history entry (LookedTwice held) = refl
  none_moved history entry (MustFree goes_on held) = refl
  none_moved history entry MustTell = refl

  all_none : (history : List OfficeEntry) (entry : OfficeEntry) (standings : List Standing) → flat_map (moved_at_desk (AtOffice history entry)) standings ≡ []
  all_none history entry [] = refl
  all_none history entry (standing ∷ standings) = ap (λ (l : List Standing). l ++ flat_map (moved_at_desk (AtOffice history entry)) standings) (none_moved history entry standing) ∙ all_none history entry standings

  abbrev OverIf : Option Progress → Type 0
  OverIf None = Unit {0}
  OverIf (Some q) = q ≡ IsOver

  told_over : (history : List OfficeEntry) (entry : OfficeEntry) → OverIf (told_by_office (tells_round false) (AtOffice history entry))
  told_over history entry = cases (tells_round false entry.act entry.answer)
    where
      cases : (b : Bool) → OverIf (if b then Some IsOver else None)
      cases true = refl
      cases false = tt

  round_over : (history : List OfficeEntry) (entry : OfficeEntry) (desk : Option AtDesk) (standings : List Standing) → OverIf (go (InRound desk standings) (AtOffice history entry))
  round_over history entry desk standings = cases (list_any (told_at_desk (AtOffice history entry)) standings) (flat_map (moved_at_desk (AtOffice history entry)) standings) (all_none history entry standings)
    where
      cases : (b : Bool) (moved : List Standing) → moved ≡ [] → OverIf (if b then Some IsOver else in_round desk moved)
      cases true moved none = refl
      cases false moved none = subst (λ (l : List Standing). OverIf (in_round desk l)) (sym none) tt

  office_over : (history : List OfficeEntry) (entry : OfficeEntry) (position : Progress) → OverIf (go position (AtOffice history entry))
  office_over history entry NotBegun = told_over history entry
  office_over history entry (OrphanScan scan) = told_over history entry
  office_over history entry (InRound desk standings) = round_over history entry desk standings
  office_over history entry position = tt

  over_last : (history : List OfficeEntry) (entry : OfficeEntry) (position q : Progress) → go position (AtOffice history entry) ≡ Some q → q ≡ IsOver
  over_last history entry position q at = subst OverIf at (office_over history entry position)

  abbrev IsRow : Progress → Type 0
  IsRow position = IsTrue (is_desk_row position)

  row_kept : (position q : Progress) (turn : Turn) → IsRow position → go position turn ≡ Some q → IsRow q
  row_kept position q turn row at = (desk_follows key nodes ends position q turn row at).0

  held_left : (history : List OfficeEntry) (entry : OfficeEntry) (position q : Progress) → IsRow position → go position (AtOffice history entry) ≡ Some q → held_at q ≡ held_at position
  held_left history entry position q row at = (desk_follows key nodes ends position q (AtOffice history entry) row at).1

  -- each position that its turns lead to goes with what it holds
  pub rows : (line : List Turn) (position p : Progress) → IsRow position → fold (advanced go) (Some position) line ≡ Some p → IsRow p
  rows line position p row is = kinds go held_at IsRow row_kept over_last held_left (λ turn. refl) line position p row is

  -- so its turns but for those at the office lead to a position that holds the same
  round_same : (line : List Turn) (position p : Progress) → IsRow position → fold (advanced go) (Some position) line ≡ Some p → Same go held_at IsRow row_kept over_last held_left (λ turn. refl) position line p
  round_same line position p row is = but_office go held_at IsRow row_kept over_last held_left (λ turn. refl) line position p row is

module _ (asked : Asked) (ran : Ran) (so : Goes asked ran) (line : Line) (among : In line (lines asked)) (key : List ℕ) (round : line.order ≡ Orphans key) where
  abbrev its : By
  its = by_line asked ran so line among

  abbrev its_ends : Ends
  its_ends = ends_of (view_of asked ran line)

  -- where its own steps lead it: to a position that holds what its turns lead to
  pub round_led : (q : Progress) × (leads_to (Orphans key) (node_numbers asked.settings) its_ends (own_steps its (run_steps ran)) ≡ Some q) × (held_at q ≡ held_at (has_come asked ran so line among).0)
  round_led =
      let come = has_come asked ran so line among in
      let led : leads_to (Orphans key) (node_numbers asked.settings) its_ends (turns its ran.trace) ≡ Some come.0 = ap (λ (c : Command). leads_to c (node_numbers asked.settings) its_ends (turns its ran.trace)) (sym round) ∙ come.1 in
      let same = round_same key (node_numbers asked.settings) its_ends (turns its ran.trace) NotBegun come.0 refl led in
      (same.0, ap (leads_to (Orphans key) (node_numbers asked.settings) its_ends) (own_but_office asked ran so line among (Orphans key) round (λ node history entry. refl)) ∙ same.1, same.2)
