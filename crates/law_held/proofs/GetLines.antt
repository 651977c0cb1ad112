-- The own steps of a get are its turns, and where they lead it.
use Rattle.std.proofs.Common.{◌≡◌, ℕ, ◌||◌, not, List, [], ◌++◌, refl, sym, ap, subst, ◌∙◌, eqb}
use Rattle.std.specs.Prelude.{IsTrue, Option, Some, is_none}
use Rattle.std.specs.List.{fold, list_all}
use Rattle.std.proofs.lemmas.Bool.{false≢true}
use Rattle.aft_model.specs.declared.caller.By.{By}
use Rattle.aft_model.specs.declared.node.NodeAct.{NodeAct}
use Rattle.aft_model.specs.declared.node.NodeAct.TheVariants as acts
use Rattle.aft_model.specs.declared.script.Command.{Command}
use Rattle.aft_model.specs.declared.script.Command.TheVariants.{Get}
use Rattle.aft_model.specs.declared.script.Line.{Line}
use Rattle.aft_model.proofs.Histories.{In, all_at, in_back}
use Rattle.aft_model.proofs.Lists.{all_from}
use Rattle.aft_lines.specs.Advance.{leads_to}
use Rattle.aft_lines.specs.Asked.{Asked, Ran}
use Rattle.aft_lines.specs.LineView.{ends_of}
use Rattle.aft_lines.specs.Lines.{lines, node_numbers}
use Rattle.aft_lines.specs.Makes.{makes, makes_at_node}
use Rattle.aft_lines.specs.Progress.{Progress}
use Rattle.aft_lines.specs.Steps.{own_steps}
use Rattle.aft_lines.specs.Turns.{AtDoor, AtNode, AtOffice, Turn, door_turns, given_by, given_in, moment, nodes_turns, office_turns, turns, with_turn}
use Rattle.aft_lines.specs.Views.{view_of}
use Rattle.law_runs.specs.Runs.{Goes, run_steps, without_office}
use Rattle.law_runs.proofs.Members.{in_turns}
use Rattle.law_runs.proofs.Nodes.{rises_without}
use Rattle.law_runs.proofs.Own.{by_line, has_come, makes_all, office_none, tied, turns_legal}
use Rattle.law_runs.proofs.Walks.{stands_in}
use Rattle.law_steps.proofs.Own.{own_turns}
use Rattle.law_steps.specs.OneList.{IsOrdinary, entries_of}
use Rattle.law_turns.specs.Order.{give_nothing_up, same_list, tie_in_one_list}
use Rattle.law_held.proofs.GetTurns.{gets_place}

-- a get gives nothing up
gets_give_none : (key : List ℕ) (turn : Turn) → IsTrue (makes (Get key) turn) → IsTrue (is_none (given_in turn))
gets_give_none key (AtDoor place act) made = refl
gets_give_none key (AtOffice history entry) made = refl
gets_give_none key (AtNode at history entry) made = by_act entry.act made
  where
    by_act : (act : NodeAct) → IsTrue (makes_at_node (Get key) act) → IsTrue (is_none (given_by act))
    by_act (acts.GiveUp id) is = absurd (false≢true is)
    by_act act is = refl

module _ (asked : Asked) (ran : Ran) (so : Goes asked ran) (line : Line) (among : In line (lines asked)) (key : List ℕ) (gets : line.order ≡ Get key) where
  abbrev its : By
  its = by_line asked ran so line among

  makes_gets : (x : Turn) → In x (turns its ran.trace) → IsTrue (makes (Get key) x)
  makes_gets x there = subst (λ (c : Command). IsTrue (makes c x)) gets (all_at (makes line.order) x (turns its ran.trace) there (makes_all asked ran so line among))

  place : (node : ℕ) × IsTrue (list_all (stands_in node) (turns its ran.trace))
  place =
      let come = has_come asked ran so line among in
      gets_place (ends_of (view_of asked ran line)) key (node_numbers asked.settings) asked.settings.cache (turns its ran.trace) come.0
      (subst (λ (c : Command). leads_by c ≡ Some come.0) gets come.1) (turns_legal asked.settings.cache its ran.trace so.nodes)
    where
      leads_by : Command → Option Progress
      leads_by c = leads_to c (node_numbers asked.settings) (ends_of (view_of asked ran line)) (turns its ran.trace)

  stands : (x : Turn) → In x (entries_of its ran.trace) → IsTrue (stands_in place.0 x)
  stands x there = all_at (stands_in place.0) x (turns its ran.trace) (in_turns its ran.trace x there) place.1

  no_office_turns : office_turns its [] ran.trace.office ≡ []
  no_office_turns = office_none its place.0 [] ran.trace.office (λ x there. stands x (in_back x (nodes_turns its 1 ran.trace.nodes ++ door_turns its 0 ran.trace.door) (office_turns its [] ran.trace.office) there))

  entries_same : entries_of its (without_office ran.trace) ≡ entries_of its ran.trace
  entries_same = ap (λ (l : List Turn). nodes_turns its 1 ran.trace.nodes ++ door_turns its 0 ran.trace.door ++ l) (sym no_office_turns)

  ordinary : IsOrdinary its (without_office ran.trace)
  ordinary = record {
    quiet = subst (λ (l : List Turn). IsTrue (give_nothing_up l)) (sym entries_same)
        (all_from (λ (t : Turn). is_none (given_in t)) (entries_of its ran.trace) (λ t there. gets_give_none key t (makes_gets t (in_turns its ran.trace t there))));
    ties = subst (λ (l : List Turn). IsTrue (tie_in_one_list l)) (sym entries_same)
        (all_from (λ (t : Turn). list_all (λ (o : Turn). not (eqb (moment t) (moment o)) || same_list t o) (entries_of its ran.trace)) (entries_of its ran.trace)
        (λ t there. all_from (λ (o : Turn). not (eqb (moment t) (moment o)) || same_list t o) (entries_of its ran.trace) (λ o also. tied place.0 t o (stands t there) (stands o also))));
  }

  pub gets_own : own_steps its (run_steps ran) ≡ turns its ran.trace
  gets_own = own_turns its (without_office ran.trace) (rises_without asked.settings.cache ran.trace so.nodes) ordinary ∙ ap (λ (l : List Turn). fold with_turn [] l) entries_same
