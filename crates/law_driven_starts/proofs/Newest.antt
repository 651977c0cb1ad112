-- Where a start is to bring an incarnation up that wasn't fenced, no newer one of its node was.
use Rattle.std.proofs.Common.{◌≡◌, ℕ, ◌≤◌, Bool, true, false, ◌&&◌, ◌||◌, not, List, [], ◌∷◌, ◌++◌, refl, sym, ap, subst, ◌∙◌, inl, inr, eqb, arith, append-nil}
use Rattle.std.specs.Prelude.{IsTrue, None, Option, Some, if◌then◌else◌, nat_le}
use Rattle.std.proofs.lemmas.Bool.{and_from, and_parts, cases_Bool, eq-eqb, eqb-true, false≢true, leb-true, or_cases, or_left, or_right}
use Rattle.std.proofs.lemmas.List.Concat.{flat_map-append}
use Rattle.aft_model.specs.declared.caller.By.{By}
use Rattle.aft_model.specs.declared.door.DoorAct.{DoorAct}
use Rattle.aft_model.specs.declared.door.DoorAct.TheVariants as doors
use Rattle.aft_model.specs.declared.door.DoorEntry.{DoorEntry}
use Rattle.aft_model.specs.declared.node.NodeEntry.{NodeEntry}
use Rattle.aft_model.specs.declared.script.Line.{Line}
use Rattle.aft_model.specs.DoorKnowledge.{is_open}
use Rattle.aft_model.specs.LegalDoor.{Legal, is_answered, may_come, may_follow}
use Rattle.aft_model.specs.LegalNode.{LegalNode, may_follow_at}
use Rattle.aft_model.specs.Membership.{Incarnation, fenced, fenced_in, incarnation, is_up, same_incarnation}
use Rattle.aft_model.specs.NodeSights.{is_fenced}
use Rattle.aft_model.specs.NodeState.{boots, newest, node_state, serves}
use Rattle.aft_model.specs.Opening.{may_open, may_read, opening}
use Rattle.aft_model.specs.ScanRun.{same_line}
use Rattle.aft_model.proofs.Histories.{In, any_found, any_from, each_after_split, in_flat_map}
use Rattle.aft_model.proofs.Lists.{all_from}
use Rattle.aft_door.specs.Refusals.{is_past}
use Rattle.aft_lines.specs.Asked.{Asked, Ran}
use Rattle.aft_lines.specs.LineView.{door_entry_in}
use Rattle.aft_lines.specs.Lines.{lines}
use Rattle.aft_lines.specs.RunsSoFar.{position_of}
use Rattle.aft_lines.specs.Steps.{Made, door_steps}
use Rattle.aft_lines.specs.Turns.{AtDoor, AtNode, AtOffice, Turn}
use Rattle.aft_lines.specs.Views.{view_of}
use Rattle.law_attempts.proofs.Newest.{booting_newest, serving_newest}
use Rattle.law_holders.specs.Rows.{is_of_node}
use Rattle.law_claims.specs.Moments.{node_entry_in, node_steps}
use Rattle.law_runs.specs.Runs.{Goes, run_steps, without_office}
use Rattle.law_runs.proofs.Come.{door_parts}
use Rattle.law_runs.proofs.LegalRuns.{so_far_goes}
use Rattle.law_runs.proofs.Nodes.{nodes_rules}
use Rattle.law_runs.proofs.Retires.{split_at}
use Rattle.law_steps.proofs.Histories.{door_is}
use Rattle.law_held.specs.Starting.{is_start, to_come_up}
use Rattle.law_held.proofs.Boots.{Stood, stood_behind}
use Rattle.law_held.proofs.BootsOnce.{newest_grows}
use Rattle.law_held.proofs.Stand.{node_all}
use Rattle.law_held.proofs.Starts.{ups_boot}
use Rattle.law_held.proofs.StartsEnd.{IsBegun, its_begun}
use Rattle.law_accounts.specs.Account.{Account, Stand}
use Rattle.law_accounts.proofs.Runs.{account_runs}
use Rattle.law_driven_starts.specs.Starts.{StartsAreNewest, stands_newest}

-- ---- whoever is fenced is up then

up_then : (other : Incarnation) (h : List DoorEntry) (by : By) (act : DoorAct) → In other (fenced_in act) → IsTrue (if is_open h then may_come h act else (same_line opening by && may_read h act)) → IsTrue (is_up other h)
up_then other h by (doors.Fence node inc) (inl is) rule = subst (λ (w : Incarnation). IsTrue (is_up w h)) (sym is) (cases (is_open h) rule)
  where
    cases : (b : Bool) → IsTrue (if b then may_come h (doors.Fence node inc) else (same_line opening by && may_read h (doors.Fence node inc))) → IsTrue (is_up (incarnation node inc) h)
    cases true come = (and_parts (is_up (incarnation node inc) h) _ come).0
    cases false read = absurd (false≢true (and_parts (same_line opening by) false read).1)
up_then other h by (doors.Fence node inc) (inr none) rule = absurd none
up_then other h by act none rule = absurd none

-- ---- a run that has an account

module _ (asked : Asked) (ran : Ran) (stand : Line → Stand) (account : Account asked ran stand) where
  so : Goes asked ran
  so = so_far_goes asked ran (account_runs asked ran stand account)

  all : run_steps ran ≡ run_steps ran ++ []
  all = sym (append-nil (run_steps ran))

  door_all : door_steps (run_steps ran) ≡ ran.trace.door
  door_all = door_is (without_office ran.trace)

  legal : (node : ℕ) → LegalNode node asked.settings.cache (node_steps node (run_steps ran))
  legal node =
      subst (λ (h : List NodeEntry). LegalNode node asked.settings.cache h) (sym (node_all asked ran so account.differ node))
      (nodes_rules node 1 asked.settings.cache ran.trace.door ran.trace.nodes account.nodes).0

  -- an incarnation that is up at some moment isn't newer than the newest that its node ever began to boot
  module _ (before rest : List Made) (one : Made) (is : run_steps ran ≡ before ++ one ∷ rest) where
    parts : (node : ℕ) → node_steps node (run_steps ran) ≡ node_steps node before ++ node_steps node (one ∷ rest)
    parts node = ap (node_steps node) is ∙ flat_map-append (λ (m : Made). node_entry_in node m.turn) before (one ∷ rest)

    legal_then : (node : ℕ) → LegalNode node asked.settings.cache (node_steps node before)
    legal_then node = (each_after_split (may_follow_at node asked.settings.cache) [] (node_steps node before) (node_steps node (one ∷ rest)) (subst (λ (h : List NodeEntry). LegalNode node asked.settings.cache h) (parts node) (legal node))).0

    up_old : (node inc : ℕ) → IsTrue (is_of_node (incarnation node inc)) → IsTrue (is_up (incarnation node inc) (door_steps before)) → inc ≤ newest (node_steps node (run_steps ran))
    up_old node inc of up = elim (or_cases (boots inc (node_state (node_steps node before))) (serves inc (node_state (node_steps node before))) (ups_boot asked ran so before (one ∷ rest) is node inc of up)) [
      | inl boot ↦ since (booting_newest node asked.settings.cache inc (node_steps node before) (legal_then node) boot)
      | inr serve ↦ since (serving_newest node asked.settings.cache inc (node_steps node before) (legal_then node) serve)
    ]
      where
        since : newest (node_steps node before) ≡ inc → inc ≤ newest (node_steps node (run_steps ran))
        since newest_is =
            let grown : newest (node_steps node before) ≤ newest (node_steps node (run_steps ran)) =
            subst (λ (h : List NodeEntry). newest (node_steps node before) ≤ newest h) (sym (parts node)) (newest_grows (node_steps node (one ∷ rest)) (node_steps node before)) in
            omega arith

    was_up : (other : Incarnation) (e : DoorEntry) → In e (door_entry_in one.by one.turn) → In other (fenced_in e.act) → IsTrue (is_up other (door_steps before))
    was_up other e its fences = by_turn one.turn refl its
      where
        by_turn : (turn : Turn) → one.turn ≡ turn → In e (door_entry_in one.by turn) → IsTrue (is_up other (door_steps before))
        by_turn (AtDoor place act) turned (inl same) =
            let entry : DoorEntry = record { by = one.by; act = act } in
            let whole : ran.trace.door ≡ door_steps before ++ entry ∷ door_steps rest = door_parts asked ran so before rest one is ∙ ap (λ (t : Turn). door_steps before ++ (door_entry_in one.by t ++ door_steps rest)) turned in
            let split = each_after_split may_follow [] (door_steps before) (entry ∷ door_steps rest) (subst (λ (d : List DoorEntry). Legal d) whole so.door) in
            up_then other (door_steps before) one.by act (subst (λ (x : DoorEntry). In other (fenced_in x.act)) same fences)
            (and_parts (is_answered act) (if is_open (door_steps before) then may_come (door_steps before) act else may_open (door_steps before) entry) (and_parts (may_follow (door_steps before) entry) _ split.1).0).1
        by_turn (AtDoor place act) turned (inr none) = absurd none
        by_turn (AtNode number history entry) turned none = absurd none
        by_turn (AtOffice history entry) turned none = absurd none

  fenced_old : (other : Incarnation) → IsTrue (is_of_node other) → In other (fenced ran.trace.door) → other.inc ≤ newest (node_steps other.node (run_steps ran))
  fenced_old other of there =
      let e = in_flat_map (λ (x : DoorEntry). fenced_in x.act) other ran.trace.door there in
      let made = in_flat_map (λ (m : Made). door_entry_in m.by m.turn) e.0 (run_steps ran) (subst (λ (d : List DoorEntry). In e.0 d) (sym door_all) e.1) in
      let cut = split_at made.0 (run_steps ran) made.1 in
      up_old cut.0 cut.1 made.0 cut.2 other.node other.inc of (was_up cut.0 cut.1 made.0 cut.2 other e.0 made.2 e.2)

  -- ---- one that its node began to boot

  newest_there : (who : Incarnation) → IsBegun asked ran so who → IsTrue (stands_newest ran.trace.door (Some who))
  newest_there who (of, begun) = by_stood (stood_behind asked ran so (run_steps ran) [] all who.node who.inc begun)
    where
      newest_so : newest (node_steps who.node (run_steps ran)) ≡ who.inc → IsTrue (stands_newest ran.trace.door (Some who))
      newest_so newest_is = elim (cases_Bool (is_past who.node who.inc ran.trace.door)) [
        | inr none ↦ or_right (is_fenced who ran.trace.door) (not (is_past who.node who.inc ran.trace.door)) (ap not none)
        | inl past ↦
            let found = any_found (λ (other : Incarnation). eqb other.node who.node && nat_le who.inc other.inc) (fenced ran.trace.door) past in
            let other : Incarnation = found.0 in
            let tests = and_parts (eqb other.node who.node) (nat_le who.inc other.inc) found.2 in
            let same : other.node ≡ who.node = eqb-true other.node who.node tests.0 in
            let least : who.inc ≤ other.inc = leb-true who.inc other.inc tests.1 in
            let old : other.inc ≤ newest (node_steps who.node (run_steps ran)) =
            subst (λ (n : ℕ). other.inc ≤ newest (node_steps n (run_steps ran))) same (fenced_old other (subst (λ (n : ℕ). IsTrue (is_of_node (incarnation n other.inc))) (sym same) of) found.1) in
            let one : who.inc ≡ other.inc = omega arith in
            or_left (is_fenced who ran.trace.door) (not (is_past who.node who.inc ran.trace.door))
            (any_from (same_incarnation who) other (fenced ran.trace.door) found.1 (and_from (eqb who.node other.node) (eqb who.inc other.inc) (eq-eqb who.node other.node (sym same)) (eq-eqb who.inc other.inc one)))
      ]

      by_stood : Stood who.node (node_state (node_steps who.node (run_steps ran))) who.inc (door_steps (run_steps ran)) → IsTrue (stands_newest ran.trace.door (Some who))
      by_stood (inl boot) = newest_so (booting_newest who.node asked.settings.cache who.inc (node_steps who.node (run_steps ran)) (legal who.node) boot)
      by_stood (inr (inl serve)) = newest_so (serving_newest who.node asked.settings.cache who.inc (node_steps who.node (run_steps ran)) (legal who.node) serve)
      by_stood (inr (inr gone)) = or_left (is_fenced who ran.trace.door) (not (is_past who.node who.inc ran.trace.door)) (subst (λ (d : List DoorEntry). IsTrue (is_fenced who d)) door_all gone)

  -- ---- starts

  module _ (line : Line) (listed : In line (lines asked)) where
    stands : IsTrue (is_start line.order) → (o : Option Incarnation) → to_come_up (position_of (view_of asked ran line)) ≡ o → IsTrue (stands_newest ran.trace.door o)
    stands start None is = refl
    stands start (Some who) is = newest_there who (its_begun asked ran so line listed start who is)

    its_newest : IsTrue (not (is_start line.order) || stands_newest ran.trace.door (to_come_up (position_of (view_of asked ran line))))
    its_newest = elim (cases_Bool (is_start line.order)) [
      | inl start ↦ or_right (not (is_start line.order)) (stands_newest ran.trace.door (to_come_up (position_of (view_of asked ran line)))) (stands start (to_come_up (position_of (view_of asked ran line))) refl)
      | inr other ↦ or_left (not (is_start line.order)) (stands_newest ran.trace.door (to_come_up (position_of (view_of asked ran line)))) (ap not other)
    ]

  pub starts_newest : StartsAreNewest asked ran
  starts_newest = all_from (λ (l : Line). not (is_start l.order) || stands_newest ran.trace.door (to_come_up (position_of (view_of asked ran l)))) (lines asked) its_newest
