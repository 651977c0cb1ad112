-- A start that is to bring an incarnation up finds no other of its node up, unless that one was fenced.
use Rattle.std.proofs.Common.{◌≡◌, ℕ, ◌≤◌, Bool, true, false, ◌||◌, not, List, [], ◌∷◌, ◌++◌, refl, sym, ap, subst, ◌∙◌, inl, inr, eqb, arith, append-nil}
use Rattle.std.specs.Prelude.{IsTrue, None, Option, Some, if◌then◌else◌}
use Rattle.std.specs.List.{list_all, list_any}
use Rattle.std.proofs.lemmas.Bool.{and_from, and_parts, cases_Bool, eq-eqb, eqb-true, false≢true, ne_eqb, or_left, or_right}
use Rattle.aft_model.specs.declared.door.DoorEntry.{DoorEntry}
use Rattle.aft_model.specs.declared.node.NodeEntry.{NodeEntry}
use Rattle.aft_model.specs.declared.script.Command.{Command}
use Rattle.aft_model.specs.declared.script.Command.TheVariants as commands
use Rattle.aft_model.specs.declared.script.Line.{Line}
use Rattle.aft_model.specs.Membership.{Incarnation, incarnation, is_up, same_incarnation, ups}
use Rattle.aft_model.specs.NodeSights.{is_fenced}
use Rattle.aft_model.specs.NodeState.{IsBooting, IsDown, IsServing, NodeState, boots, node_state, serves}
use Rattle.aft_model.proofs.Histories.{In, any_from, in_append, in_back}
use Rattle.aft_model.proofs.Lists.{all_from}
use Rattle.aft_model.proofs.OneCommit.{same_itself}
use Rattle.aft_lines.specs.Advance.{leads_to}
use Rattle.aft_lines.specs.Asked.{Asked, Ran}
use Rattle.aft_lines.specs.BackupCourse.{copier}
use Rattle.aft_lines.specs.FinishedText.{line_of}
use Rattle.aft_lines.specs.LineView.{ends_of}
use Rattle.aft_lines.specs.Lines.{lines, node_numbers}
use Rattle.aft_lines.specs.Progress.{MustComeUp, Progress}
use Rattle.aft_lines.specs.RunsSoFar.{position_of}
use Rattle.aft_lines.specs.Steps.{Made, door_steps}
use Rattle.aft_lines.specs.Turns.{AtDoor, AtNode, AtOffice, Turn, door_turns, nodes_turns, office_turns, turns}
use Rattle.aft_lines.specs.Views.{view_of}
use Rattle.law_holders.specs.Rows.{is_of_node}
use Rattle.law_claims.specs.Moments.{node_entry_in, node_steps}
use Rattle.law_runs.specs.Runs.{Goes, run_steps, without_office}
use Rattle.law_runs.proofs.Members.{turns_in}
use Rattle.law_runs.proofs.Own.{has_come}
use Rattle.law_steps.proofs.Histories.{door_is}
use Rattle.law_held.specs.Starting.{StartsStand, is_start, stands_alone, to_come_up}
use Rattle.law_held.proofs.Begun.{boots_in, start_at}
use Rattle.law_held.proofs.Boots.{Stood, begins_boot, stood_behind}
use Rattle.law_held.proofs.ComesUp.{door_none, node_low, office_none}
use Rattle.law_held.proofs.Low.{starts_at}
use Rattle.law_held.proofs.Starts.{flat_in, nodes_split, turn_step, ups_boot}

-- a node boots or serves one incarnation
one_boots : (state : NodeState) (i j : ℕ) → IsTrue (boots i state || serves i state) → IsTrue (boots j state || serves j state) → i ≡ j
one_boots IsDown i j one other = absurd (false≢true one)
one_boots (IsBooting b running) i j one other = eqb-true i b (first (eqb i b) one) ∙ sym (eqb-true j b (first (eqb j b) other))
  where
    first : (x : Bool) → IsTrue (x || false) → IsTrue x
    first true is = refl
    first false is = is
one_boots (IsServing s) i j one other = eqb-true i s.inc one ∙ sym (eqb-true j s.inc other)

pub start_so : (command : Command) → IsTrue (is_start command) → (home : ℕ) × (command ≡ commands.Start home)
start_so (commands.Start home) is = (home, refl)
start_so command is = absurd (false≢true is)

module _ (asked : Asked) (ran : Ran) (so : Goes asked ran) where
  all : run_steps ran ≡ run_steps ran ++ []
  all = sym (append-nil (run_steps ran))

  door_all : door_steps (run_steps ran) ≡ ran.trace.door
  door_all = door_is (without_office ran.trace)

  -- the node of a line's turn at one
  node_there : (line : Line) (at : ℕ) (history : List NodeEntry) (entry : NodeEntry) → In (AtNode at history entry) (turns (line_of line) ran.trace) → (inc : ℕ) → IsTrue (is_of_node (incarnation at inc))
  node_there line at history entry there inc = and_from (not (eqb at 0)) (not (eqb at copier)) (ap not (ne_eqb at 0 (λ zero. (let z : at ≡ 0 = zero in let l : 1 ≤ at = least in omega arith)))) (ap not (node_low asked ran so (line_of line) at history entry there))
    where
      least : 1 ≤ at
      least = elim (in_append (AtNode at history entry) (nodes_turns (line_of line) 1 ran.trace.nodes ++ door_turns (line_of line) 0 ran.trace.door) (office_turns (line_of line) [] ran.trace.office) (turns_in (line_of line) ran.trace (AtNode at history entry) there)) [
        | inl front ↦ elim (in_append (AtNode at history entry) (nodes_turns (line_of line) 1 ran.trace.nodes) (door_turns (line_of line) 0 ran.trace.door) front) [
          | inl node ↦ (nodes_split (line_of line) 1 ran.trace.nodes at history entry node).0
          | inr door ↦ absurd (door_none (line_of line) 0 ran.trace.door at history entry door)
        ]
        | inr office ↦ absurd (office_none (line_of line) [] ran.trace.office at history entry office)
      ]

  -- an incarnation of a node that this began to boot
  abbrev pub IsBegun : Incarnation → Type 0
  IsBegun who = IsTrue (is_of_node who) × IsTrue (list_any (λ (e : NodeEntry). begins_boot who.inc e.act) (node_steps who.node (run_steps ran)))

  -- whom a turn of a line began to boot
  begun_there : (line : Line) (who : Incarnation) (y : Turn) → IsTrue (boots_in who.node who.inc y) → In y (turns (line_of line) ran.trace) → IsBegun who
  begun_there line who (AtDoor p a) its there = absurd (false≢true its)
  begun_there line who (AtOffice h e) its there = absurd (false≢true its)
  begun_there line who (AtNode at history entry) its there =
      let parts = and_parts (eqb who.node at) (begins_boot who.inc entry.act) its in
      let same = eqb-true who.node at parts.0 in
      let step = turn_step asked ran so (line_of line) at history entry there in
      let m : Made = record { by = entry.by; turn = AtNode at history entry } in (
        subst (λ (n : ℕ). IsTrue (is_of_node (incarnation n who.inc))) (sym same) (node_there line at history entry there who.inc),
        any_from (λ (e : NodeEntry). begins_boot who.inc e.act) entry (node_steps who.node (run_steps ran))
            (flat_in (λ (x : Made). node_entry_in who.node x.turn) m entry (run_steps ran) (subst (λ (l : List Made). In m l) (sym step.2) (in_back m step.0 (m ∷ step.1) (inl refl)))
            (subst (λ (b : Bool). In entry (if b then entry ∷ [] else [])) (sym (eq-eqb at who.node (sym same))) (inl refl))) parts.1,
      )

  alone_there : (who : Incarnation) → IsTrue (is_of_node who) → IsTrue (list_any (λ (e : NodeEntry). begins_boot who.inc e.act) (node_steps who.node (run_steps ran))) → IsTrue (is_fenced who ran.trace.door || list_all (λ (other : Incarnation). not (eqb other.node who.node) || same_incarnation who other) (ups ran.trace.door))
  alone_there who of begun = by_stood (stood_behind asked ran so (run_steps ran) [] all who.node who.inc begun)
    where
      other_is : IsTrue (boots who.inc (node_state (node_steps who.node (run_steps ran))) || serves who.inc (node_state (node_steps who.node (run_steps ran)))) → (other : Incarnation) → In other (ups ran.trace.door) → IsTrue (not (eqb other.node who.node) || same_incarnation who other)
      other_is boot other there = elim (cases_Bool (eqb other.node who.node)) [
        | inr differs ↦ or_left (not (eqb other.node who.node)) (same_incarnation who other) (ap not differs)
        | inl same ↦
            let at : other.node ≡ who.node = eqb-true other.node who.node same in
            let its : IsTrue (is_of_node (incarnation other.node other.inc)) = subst (λ (n : ℕ). IsTrue (is_of_node (incarnation n other.inc))) (sym at) of in
            let up : IsTrue (is_up (incarnation other.node other.inc) (door_steps (run_steps ran))) = subst (λ (d : List DoorEntry). IsTrue (is_up other d)) (sym door_all) (any_from (same_incarnation other) other (ups ran.trace.door) there (same_itself other)) in
            let boots_it = ups_boot asked ran so (run_steps ran) [] all other.node other.inc its up in
            let one = one_boots (node_state (node_steps who.node (run_steps ran))) who.inc other.inc boot (subst (λ (n : ℕ). IsTrue (boots other.inc (node_state (node_steps n (run_steps ran))) || serves other.inc (node_state (node_steps n (run_steps ran))))) at boots_it) in
            or_right (not (eqb other.node who.node)) (same_incarnation who other) (and_from (eqb who.node other.node) (eqb who.inc other.inc) (eq-eqb who.node other.node (sym at)) (eq-eqb who.inc other.inc one))
      ]

      all_alone : IsTrue (boots who.inc (node_state (node_steps who.node (run_steps ran))) || serves who.inc (node_state (node_steps who.node (run_steps ran)))) → IsTrue (is_fenced who ran.trace.door || list_all (λ (other : Incarnation). not (eqb other.node who.node) || same_incarnation who other) (ups ran.trace.door))
      all_alone boot = or_right (is_fenced who ran.trace.door) (list_all (λ (other : Incarnation). not (eqb other.node who.node) || same_incarnation who other) (ups ran.trace.door)) (all_from (λ (other : Incarnation). not (eqb other.node who.node) || same_incarnation who other) (ups ran.trace.door) (other_is boot))

      by_stood : Stood who.node (node_state (node_steps who.node (run_steps ran))) who.inc (door_steps (run_steps ran)) → IsTrue (is_fenced who ran.trace.door || list_all (λ (other : Incarnation). not (eqb other.node who.node) || same_incarnation who other) (ups ran.trace.door))
      by_stood (inl boot) = all_alone (or_left (boots who.inc (node_state (node_steps who.node (run_steps ran)))) (serves who.inc (node_state (node_steps who.node (run_steps ran)))) boot)
      by_stood (inr (inl serve)) = all_alone (or_right (boots who.inc (node_state (node_steps who.node (run_steps ran)))) (serves who.inc (node_state (node_steps who.node (run_steps ran)))) serve)
      by_stood (inr (inr gone)) = or_left (is_fenced who ran.trace.door) (list_all (λ (other : Incarnation). not (eqb other.node who.node) || same_incarnation who other) (ups ran.trace.door)) (subst (λ (d : List DoorEntry). IsTrue (is_fenced who d)) door_all gone)

  comes_as : (p : Progress) (who : Incarnation) → to_come_up (Some p) ≡ Some who → starts_at p ≡ Some who
  comes_as (MustComeUp one) who is = is
  comes_as p who is = absurd (let e : None ≡ Some who = is in cc)

  -- whom a start is to bring up was begun to boot
  pub its_begun : (line : Line) → In line (lines asked) → IsTrue (is_start line.order) → (who : Incarnation) → to_come_up (position_of (view_of asked ran line)) ≡ Some who → IsBegun who
  its_begun line listed start who is =
      let come = has_come asked ran so line listed in
      let home = start_so line.order start in
      let y = start_at (ends_of (view_of asked ran line)) home.0 (node_numbers asked.settings) (turns (line_of line) ran.trace) come.0
      (ap (λ (c : Command). leads_to c (node_numbers asked.settings) (ends_of (view_of asked ran line)) (turns (line_of line) ran.trace)) (sym home.1) ∙ come.1) who (comes_as come.0 who (ap to_come_up (sym come.1) ∙ is)) in
      begun_there line who y.0 y.1 y.2

  its_stand : (line : Line) → In line (lines asked) → IsTrue (is_start line.order) → (o : Option Incarnation) → to_come_up (position_of (view_of asked ran line)) ≡ o → IsTrue (stands_alone ran.trace.door o)
  its_stand line listed start None is = refl
  its_stand line listed start (Some who) is = (let begun = its_begun line listed start who is in alone_there who begun.0 begun.1)

  start_stands : (line : Line) (listed : In line (lines asked)) → IsTrue (not (is_start line.order) || stands_alone ran.trace.door (to_come_up (position_of (view_of asked ran line))))
  start_stands line listed = elim (cases_Bool (is_start line.order)) [
    | inl start ↦
        or_right (not (is_start line.order)) (stands_alone ran.trace.door (to_come_up (position_of (view_of asked ran line))))
        (its_stand line listed start (to_come_up (position_of (view_of asked ran line))) refl)
    | inr other ↦ or_left (not (is_start line.order)) (stands_alone ran.trace.door (to_come_up (position_of (view_of asked ran line)))) (ap not other)
  ]

  pub starts_stand : StartsStand asked ran
  starts_stand = all_from (λ (l : Line). not (is_start l.order) || stands_alone ran.trace.door (to_come_up (position_of (view_of asked ran l)))) (lines asked) start_stands
