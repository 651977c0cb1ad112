-- Gets that fetch, and rounds that hold a UUID, stand as their positions say.
use Rattle.std.proofs.Common.{◌≡◌, ℕ, ◌||◌, not, List, [], refl, sym, ap, subst, ◌∙◌, ◌⊎◌, inl, inr, append-nil}
use Rattle.std.specs.Prelude.{IsTrue, IsFalse, None, Option, Some}
use Rattle.std.proofs.lemmas.Bool.{and_from, cases_Bool, eq-eqb, or_left, or_right}
use Rattle.aft_model.specs.declared.node.NodeEntry.{NodeEntry}
use Rattle.aft_model.specs.declared.script.Command.{Command}
use Rattle.aft_model.specs.declared.script.Command.TheVariants as commands
use Rattle.aft_model.specs.declared.script.Line.{Line}
use Rattle.aft_model.specs.Claims.{claim_place, holds}
use Rattle.aft_model.specs.Membership.{the_office}
use Rattle.aft_model.specs.NodeState.{node_state, serves}
use Rattle.aft_model.proofs.Histories.{In}
use Rattle.aft_model.proofs.Incarnations.{part-at}
use Rattle.aft_model.proofs.Lists.{all_from}
use Rattle.aft_model.proofs.Services.{serving}
use Rattle.aft_lines.specs.Advance.{leads_to}
use Rattle.aft_lines.specs.Asked.{Asked, Ran}
use Rattle.aft_lines.specs.CourseWords.{Ends}
use Rattle.aft_lines.specs.FinishedText.{line_of}
use Rattle.aft_lines.specs.Holding.{has_it_open, held_at_position}
use Rattle.aft_lines.specs.LineView.{ends_of}
use Rattle.aft_lines.specs.Lines.{lines, node_numbers}
use Rattle.aft_lines.specs.Progress.{AtDesk, Progress}
use Rattle.aft_lines.specs.RunsSoFar.{position_of}
use Rattle.aft_lines.specs.Steps.{own_steps}
use Rattle.aft_lines.specs.Turns.{turns}
use Rattle.aft_lines.specs.Views.{view_of}
use Rattle.law_claims.specs.Moments.{Asking, or_not_begun}
use Rattle.law_claims.proofs.DeskSteps.{desk_tells}
use Rattle.law_runs.specs.Runs.{Goes, asking_of, command_in, ends_in, line_among, run_steps}
use Rattle.law_runs.proofs.Own.{has_come}
use Rattle.law_steps.specs.Histories.{history_in}
use Rattle.law_held.specs.Desk.{LinesDiffer, desk_of}
use Rattle.law_held.specs.Fetching.{Fetch, fetch_at, fetch_behind, fetch_of}
use Rattle.law_held.specs.Standing.{GetsStand, RoundsStand, desk_stands, fetch_in, fetch_stands, is_at_place, is_get, part_of_node}
use Rattle.law_held.proofs.DeskHeld.{among_itself, desk_is, lies}
use Rattle.law_held.proofs.Fetches.{open_now}
use Rattle.law_held.proofs.GetLines.{gets_own}
use Rattle.law_held.proofs.OpenFetches.{fetches_behind}
use Rattle.law_held.proofs.Stand.{node_all}

get_so : (command : Command) → ((key : List ℕ) × (command ≡ commands.Get key)) ⊎ IsFalse (is_get command)
get_so (commands.Get key) = inl (key, refl)
get_so command = inr refl

module _ (asked : Asked) (ran : Ran) (so : Goes asked ran) (differ : LinesDiffer asked) where
  abbrev asking : Asking
  asking = asking_of asked ran

  abbrev nodes : List ℕ
  nodes = node_numbers asked.settings

  module _ (line : Line) (listed : In line (lines asked)) where
    abbrev its_ends : Ends
    its_ends = ends_of (view_of asked ran line)

    found : line_among (line_of line) (lines asked) ≡ Some line
    found = among_itself [] (lines asked) differ line listed

    -- ---- a get

    fetch_there : (key : List ℕ) → line.order ≡ commands.Get key → fetch_of asking (run_steps ran) (line_of line) ≡ fetch_at (has_come asked ran so line listed).0
    fetch_there key gets =
        ap (λ (o : Option Line). fetch_behind nodes (ends_in asked ran o) (own_steps (line_of line) (run_steps ran)) (command_in o)) found
        ∙ (ap (λ (c : Command). fetch_behind nodes its_ends (own_steps (line_of line) (run_steps ran)) (Some c)) gets
        ∙ ap (λ (o : Option Progress). fetch_at (or_not_begun o)) (ap (leads_to (commands.Get key) nodes its_ends) (gets_own asked ran so line listed key gets) ∙ (ap (λ (c : Command). leads_to c nodes its_ends (turns (line_of line) ran.trace)) (sym gets) ∙ (has_come asked ran so line listed).1)))

    its_fetch : (key : List ℕ) → line.order ≡ commands.Get key → (o : Option Fetch) → fetch_at (has_come asked ran so line listed).0 ≡ o → IsTrue (fetch_stands ran o)
    its_fetch key gets None is = refl
    its_fetch key gets (Some f) is = elim (cases_Bool (serves f.attempt.inc (node_state (history_in f.attempt.node 1 ran.trace.nodes)))) [
      | inr other ↦ or_left (not (serves f.attempt.inc (node_state (history_in f.attempt.node 1 ran.trace.nodes)))) (has_it_open f.attempt f.key f.id (part_of_node f.attempt.node ran)) (ap not other)
      | inl serve ↦
          let at = serving f.attempt.inc (node_state (history_in f.attempt.node 1 ran.trace.nodes)) serve in
          let stood = (fetches_behind asked ran so (run_steps ran) [] (sym (append-nil (run_steps ran)))).stands (line_of line) f at.0 (fetch_there key gets ∙ is) (ap node_state (node_all asked ran so differ f.attempt.node) ∙ at.1) (sym at.2) in
          or_right (not (serves f.attempt.inc (node_state (history_in f.attempt.node 1 ran.trace.nodes)))) (has_it_open f.attempt f.key f.id (part_of_node f.attempt.node ran))
          (subst (λ (p : List NodeEntry). IsTrue (has_it_open f.attempt f.key f.id p)) (sym (part-at (history_in f.attempt.node 1 ran.trace.nodes) at.0 at.1)) (open_now (line_of line) f.attempt f.key f.id [] at.0.part stood.1))
    ]

    get_stands : IsTrue (not (is_get line.order) || fetch_stands ran (fetch_in (position_of (view_of asked ran line))))
    get_stands = elim (get_so line.order) [
      | inl get ↦
          or_right (not (is_get line.order)) (fetch_stands ran (fetch_in (position_of (view_of asked ran line))))
          (subst (λ (o : Option Progress). IsTrue (fetch_stands ran (fetch_in o))) (sym (has_come asked ran so line listed).1) (its_fetch get.0 get.1 (fetch_at (has_come asked ran so line listed).0) refl))
      | inr other ↦ or_left (not (is_get line.order)) (fetch_stands ran (fetch_in (position_of (view_of asked ran line)))) (ap not other)
    ]

    -- ---- a round

    its_desk : (o : Option AtDesk) → held_at_position (position_of (view_of asked ran line)) ≡ o → IsTrue (desk_stands ran.trace.door o)
    its_desk None is = refl
    its_desk (Some held) is =
        let tells = desk_tells ran.trace.door (desk_of asking (run_steps ran)) (line_of line) held so.door (lies asked ran so) (desk_is asked ran so line listed found ∙ is) in
        and_from (holds the_office held.uuid ran.trace.door) (is_at_place held.place (claim_place held.uuid ran.trace.door)) tells.0
        (subst (λ (o : Option ℕ). IsTrue (is_at_place held.place o)) (sym tells.1) (eq-eqb held.place held.place refl))

  pub gets_stand : GetsStand asked ran
  gets_stand = all_from (λ (l : Line). not (is_get l.order) || fetch_stands ran (fetch_in (position_of (view_of asked ran l)))) (lines asked) (λ l listed. get_stands l listed)

  pub rounds_stand : RoundsStand asked ran
  rounds_stand = all_from (λ (l : Line). desk_stands ran.trace.door (held_at_position (position_of (view_of asked ran l)))) (lines asked) (λ l listed. its_desk l listed (held_at_position (position_of (view_of asked ran l))) refl)
