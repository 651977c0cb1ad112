-- In a run only copies bring copiers up.
use Rattle.std.proofs.Common.{◌≡◌, ℕ, zero, suc, ◌<◌, ◌≤◌, ◌+◌, Bool, true, false, ◌&&◌, not, List, [], ◌∷◌, ◌++◌, length, length-append, refl, sym, ap, subst, ◌∙◌, ◌⊎◌, inl, inr, eqb, arith, append_assoc}
use Rattle.std.specs.Prelude.{IsTrue, IsFalse, Some, if◌then◌else◌}
use Rattle.std.specs.List.{list_all, list_any, range_with_len}
use Rattle.std.proofs.lemmas.Bool.{and_from, and_parts, eqb-true, false≢true, ne_eqb, not-true, or_cases, true≢false}
use Rattle.aft_model.specs.declared.caller.By.{By}
use Rattle.aft_model.specs.declared.door.DoorAct.{DoorAct}
use Rattle.aft_model.specs.declared.door.DoorAct.TheVariants as doors
use Rattle.aft_model.specs.declared.door.DoorEntry.{DoorEntry}
use Rattle.aft_model.specs.declared.node.NodeEntry.{NodeEntry}
use Rattle.aft_model.specs.declared.office.OfficeEntry.{OfficeEntry}
use Rattle.aft_model.specs.declared.script.Command.{Command}
use Rattle.aft_model.specs.declared.script.Command.TheVariants as commands
use Rattle.aft_model.specs.declared.script.Line.{Line}
use Rattle.aft_model.specs.DoorKnowledge.{is_open, opens}
use Rattle.aft_model.specs.LegalDoor.{Legal, is_answered, may_come, may_follow}
use Rattle.aft_model.specs.Opening.{may_open, may_read, opening}
use Rattle.aft_model.specs.ScanRun.{same_line}
use Rattle.aft_model.proofs.Histories.{In, all_at, any_found, each_after_split, in_append, in_back, in_front}
use Rattle.aft_lines.specs.Advance.{leads_to}
use Rattle.aft_lines.specs.Asked.{Asked, Ran, are_settings}
use Rattle.aft_lines.specs.BackupCourse.{copier}
use Rattle.aft_lines.specs.FinishedText.{line_of}
use Rattle.aft_lines.specs.LegalTrace.{is_of_lines}
use Rattle.aft_lines.specs.LineView.{door_entry_in, ends_of}
use Rattle.aft_lines.specs.Lines.{lines, node_numbers}
use Rattle.aft_lines.specs.Makes.{makes, makes_at_door}
use Rattle.aft_lines.specs.Steps.{Made, door_steps}
use Rattle.aft_lines.specs.Turns.{AtDoor, AtNode, AtOffice, Turn, door_turns, node_turns, nodes_turns, office_turns, turns}
use Rattle.aft_lines.specs.Views.{view_of}
use Rattle.law_claims.proofs.Scenes.{same_by}
use Rattle.law_runs.specs.Runs.{Goes, line_among, run_steps, without_office}
use Rattle.law_runs.proofs.Come.{Named, door_makers, door_parts, most_nodes, named_line, node_makers, opens_parts, turn_made}
use Rattle.law_runs.proofs.Members.{in_turns, step_by, step_in, turns_in}
use Rattle.law_runs.proofs.Own.{has_come}
use Rattle.law_runs.proofs.Retires.{split_at}
use Rattle.law_steps.specs.OneList.{entries_of}
use Rattle.law_turns.proofs.Sorting.{sorted_ascends}
use Rattle.law_held.specs.Copies.{comes_low}
use Rattle.law_held.proofs.Begun.{BootBefore, opening_begun, start_begun}
use Rattle.law_held.proofs.Low.{begins_low, start_low}
use Rattle.law_held.proofs.Placed.{placed}

-- ---- numbers of nodes

range_low : (least count : ℕ) → least + count ≤ 9 → IsTrue (list_all (λ (n : ℕ). not (eqb n copier)) (range_with_len least count))
range_low least zero low = refl
range_low least (suc count) low = and_from (not (eqb least copier)) (list_all (λ (n : ℕ). not (eqb n copier)) (range_with_len (least + 1) count)) (ap not (ne_eqb least copier (λ is. (let nine : least ≡ 9 = is in let l : least + suc count ≤ 9 = low in omega arith)))) (range_low (least + 1) count (let l : least + suc count ≤ 9 = low in omega arith))

-- a turn of a line at a node is of one that there is
node_bound : (by : By) (node : ℕ) (before h : List NodeEntry) (at : ℕ) (history : List NodeEntry) (entry : NodeEntry) → In (AtNode at history entry) (node_turns by node before h) → at ≡ node
node_bound by node before [] at history entry none = absurd none
node_bound by node before (e ∷ h) at history entry among = elim (in_append (AtNode at history entry) (if same_line by e.by then AtNode node before e ∷ [] else []) (node_turns by node (before ++ e ∷ []) h) among) [
  | inl here ↦ at_here (same_line by e.by) here
  | inr later ↦ node_bound by node (before ++ e ∷ []) h at history entry later
]
  where
    number : Turn → ℕ
    number (AtNode n b x) = n
    number turn = 0

    at_here : (b : Bool) → In (AtNode at history entry) (if b then AtNode node before e ∷ [] else []) → at ≡ node
    at_here true (inl is) = ap number is
    at_here true (inr none) = absurd none
    at_here false none = absurd none

nodes_bound : (by : By) (node : ℕ) (histories : List (List NodeEntry)) (at : ℕ) (history : List NodeEntry) (entry : NodeEntry) → In (AtNode at history entry) (nodes_turns by node histories) → at < node + length histories
nodes_bound by node [] at history entry none = absurd none
nodes_bound by node (h ∷ histories) at history entry among = elim (in_append (AtNode at history entry) (node_turns by node [] h) (nodes_turns by (suc node) histories) among) [
  | inl here ↦ (let is = node_bound by node [] h at history entry here in omega arith)
  | inr later ↦ (let less : at < suc node + length histories = nodes_bound by (suc node) histories at history entry later in omega arith)
]

pub door_none : (by : By) (place : ℕ) (door : List DoorEntry) (at : ℕ) (history : List NodeEntry) (entry : NodeEntry) → In (AtNode at history entry) (door_turns by place door) → ⊥
door_none by place [] at history entry none = none
door_none by place (e ∷ door) at history entry among = elim (in_append (AtNode at history entry) (if same_line by e.by then AtDoor place e.act ∷ [] else []) (door_turns by (suc place) door) among) [
  | inl here ↦ at_here (same_line by e.by) here
  | inr later ↦ door_none by (suc place) door at history entry later
]
  where
    at_here : (b : Bool) → In (AtNode at history entry) (if b then AtDoor place e.act ∷ [] else []) → ⊥
    at_here true (inl is) = absurd (cc)
    at_here true (inr none) = none
    at_here false none = none

pub office_none : (by : By) (before office : List OfficeEntry) (at : ℕ) (history : List NodeEntry) (entry : NodeEntry) → In (AtNode at history entry) (office_turns by before office) → ⊥
office_none by before [] at history entry none = none
office_none by before (e ∷ office) at history entry among = elim (in_append (AtNode at history entry) (if same_line by e.by then AtOffice before e ∷ [] else []) (office_turns by (before ++ e ∷ []) office) among) [
  | inl here ↦ at_here (same_line by e.by) here
  | inr later ↦ office_none by (before ++ e ∷ []) office at history entry later
]
  where
    at_here : (b : Bool) → In (AtNode at history entry) (if b then AtOffice before e ∷ [] else []) → ⊥
    at_here true (inl is) = absurd (cc)
    at_here true (inr none) = none
    at_here false none = none

-- an entry of the door is a turn of its line
door_turn_at : (place : ℕ) (h : List DoorEntry) (e : DoorEntry) (more : List DoorEntry) (by : By) → IsTrue (same_line by e.by) → In (AtDoor (place + length h) e.act) (door_turns by place (h ++ e ∷ more))
door_turn_at place [] e more by own =
    subst (λ (b : Bool). In (AtDoor (place + 0) e.act) ((if b then AtDoor place e.act ∷ [] else []) ++ door_turns by (suc place) more)) (sym own) (inl (ap (λ (n : ℕ). AtDoor n e.act) (let z : place + 0 ≡ place = omega arith in z)))
door_turn_at place (x ∷ h) e more by own =
    in_back (AtDoor (place + suc (length h)) e.act) (if same_line by x.by then AtDoor place x.act ∷ [] else []) (door_turns by (suc place) (h ++ e ∷ more))
    (subst (λ (n : ℕ). In (AtDoor n e.act) (door_turns by (suc place) (h ++ e ∷ more))) (let z : suc place + length h ≡ place + suc (length h) = omega arith in z) (door_turn_at (suc place) h e more by own))

-- ---- which commands bring somebody up

up_by : (command : Command) (node inc : ℕ) → IsTrue (makes_at_door command (doors.Up node inc)) → ((home : ℕ) × (command ≡ commands.Start home)) ⊎ (command ≡ commands.Backup)
up_by (commands.Start home) node inc made = inl (home, refl)
up_by commands.Backup node inc made = inr refl
up_by command node inc made = absurd (false≢true made)

-- ---- a run

module _ (asked : Asked) (ran : Ran) (so : Goes asked ran) where
  -- a turn of a line at a node is of none past the last
  pub node_low : (by : By) (at : ℕ) (history : List NodeEntry) (entry : NodeEntry) → In (AtNode at history entry) (turns by ran.trace) → IsFalse (eqb at copier)
  node_low by at history entry among =
      ne_eqb at copier (λ is. (let nine : at ≡ 9 = is in let most = most_nodes asked ran so in let less : at < 1 + length ran.trace.nodes = bound in omega arith))
    where
      bound : at < 1 + length ran.trace.nodes
      bound = elim (in_append (AtNode at history entry) (nodes_turns by 1 ran.trace.nodes ++ door_turns by 0 ran.trace.door) (office_turns by [] ran.trace.office) (turns_in by ran.trace (AtNode at history entry) among)) [
        | inl front ↦ elim (in_append (AtNode at history entry) (nodes_turns by 1 ran.trace.nodes) (door_turns by 0 ran.trace.door) front) [
          | inl node ↦ nodes_bound by 1 ran.trace.nodes at history entry node
          | inr door ↦ absurd (door_none by 0 ran.trace.door at history entry door)
        ]
        | inr office ↦ absurd (office_none by [] ran.trace.office at history entry office)
      ]

  numbers_low : IsTrue (list_all (λ (n : ℕ). not (eqb n copier)) (node_numbers asked.settings))
  numbers_low =
      let fits = and_parts (are_settings asked.settings && eqb (length ran.trace.nodes) asked.settings.nodes) (eqb (length ran.mail) (suc asked.settings.nodes)) so.settings in
      let these = and_parts (are_settings asked.settings) (eqb (length ran.trace.nodes) asked.settings.nodes) fits.0 in
      let same = eqb-true (length ran.trace.nodes) asked.settings.nodes these.1 in
      let most = most_nodes asked ran so in
      range_low 1 asked.settings.nodes (omega arith)

  module _ (before rest : List Made) (one : Made) (is : run_steps ran ≡ before ++ one ∷ rest) (place node inc : ℕ) (turned : one.turn ≡ AtDoor place (doors.Up node inc)) where
    among : In one (run_steps ran)
    among = subst (λ (l : List Made). In one l) (sym is) (in_back one before (one ∷ rest) (inl refl))

    its_turn : (by : By) → one.by ≡ by → In (AtDoor place (doors.Up node inc)) (turns by ran.trace)
    its_turn by own = subst (λ (b : By). In (AtDoor place (doors.Up node inc)) (turns b ran.trace)) own (in_turns one.by ran.trace (AtDoor place (doors.Up node inc)) (subst (λ (t : Turn). In t (entries_of one.by ran.trace)) turned (step_in ran.trace one among)))

    -- by a start
    started_low : (line : Line) → In line (lines asked) → line_of line ≡ one.by → (home : ℕ) → line.order ≡ commands.Start home → IsFalse (eqb node copier)
    started_low line listed its home order =
        let come = has_come asked ran so line listed in
        let low = start_low (ends_of (view_of asked ran line)) home (node_numbers asked.settings) (turns (line_of line) ran.trace) come.0
        (ap (λ (c : Command). leads_to c (node_numbers asked.settings) (ends_of (view_of asked ran line)) (turns (line_of line) ran.trace)) (sym order) ∙ come.1) (λ at h e there. node_low (line_of line) at h e there) in
        not-true (eqb node copier) (all_at comes_low (AtDoor place (doors.Up node inc)) (turns (line_of line) ran.trace) (its_turn (line_of line) (sym its)) low)

    -- the door was opened before
    door_there : ran.trace.door ≡ door_steps before ++ record { by = one.by; act = doors.Up node inc } ∷ door_steps rest
    door_there = door_parts asked ran so before rest one is ∙ ap (λ (t : Turn). door_steps before ++ (door_entry_in one.by t ++ door_steps rest)) turned

    rule_at : (h : List DoorEntry) (e : DoorEntry) (more : List DoorEntry) → ran.trace.door ≡ h ++ e ∷ more → IsTrue (if is_open h then may_come h e.act else may_open h e)
    rule_at h e more whole =
        let split = each_after_split may_follow [] h (e ∷ more) (subst (λ (d : List DoorEntry). Legal d) whole so.door) in
        (and_parts (is_answered e.act) (if is_open h then may_come h e.act else may_open h e) (and_parts (may_follow h e) _ split.1).0).1

    was_open : IsTrue (is_open (door_steps before))
    was_open = cases (is_open (door_steps before)) (rule_at (door_steps before) (record { by = one.by; act = doors.Up node inc }) (door_steps rest) door_there)
      where
        cases : (b : Bool) → IsTrue (if b then may_come (door_steps before) (doors.Up node inc) else may_open (door_steps before) (record { by = one.by; act = doors.Up node inc })) → IsTrue b
        cases true rule = refl
        cases false rule = absurd (false≢true (and_parts (same_line opening one.by) false rule).1)

    opened_by : (h : List DoorEntry) (e : DoorEntry) → IsTrue (opens e.act) → IsTrue (if is_open h then may_come h e.act else may_open h e) → IsTrue (same_line opening e.by)
    opened_by h e its rule = cases (is_open h) rule
      where
        not_come : (act : DoorAct) → IsTrue (opens act) → IsTrue (may_come h act) → ⊥
        not_come doors.Opened o come = false≢true come
        not_come act o come = false≢true o

        cases : (b : Bool) → IsTrue (if b then may_come h e.act else may_open h e) → IsTrue (same_line opening e.by)
        cases true come = absurd (not_come e.act its come)
        cases false open_rule = (and_parts (same_line opening e.by) (may_read h e.act) open_rule).0

    -- by the opening: behind its opening of the door
    opened_before : (q : ℕ) × In (AtDoor q doors.Opened) (turns opening ran.trace) × (q < place)
    opened_before =
        let found = any_found (λ (e : DoorEntry). opens e.act) (door_steps before) was_open in
        let cut = split_at found.0 (door_steps before) found.1 in
        let whole : ran.trace.door ≡ cut.0 ++ found.0 ∷ (cut.1 ++ record { by = one.by; act = doors.Up node inc } ∷ door_steps rest) = door_there ∙ (ap (λ (l : List DoorEntry). l ++ record { by = one.by; act = doors.Up node inc } ∷ door_steps rest) cut.2 ∙ append_assoc cut.0 (found.0 ∷ cut.1) (record { by = one.by; act = doors.Up node inc } ∷ door_steps rest)) in
        let by_it = opened_by cut.0 found.0 found.2 (rule_at cut.0 found.0 (cut.1 ++ record { by = one.by; act = doors.Up node inc } ∷ door_steps rest) whole) in
        let there : In (AtDoor (0 + length cut.0) found.0.act) (door_turns opening 0 ran.trace.door) = subst (λ (d : List DoorEntry). In (AtDoor (0 + length cut.0) found.0.act) (door_turns opening 0 d)) (sym whole) (door_turn_at 0 cut.0 found.0 (cut.1 ++ record { by = one.by; act = doors.Up node inc } ∷ door_steps rest) opening by_it) in
        let opened : In (AtDoor (0 + length cut.0) doors.Opened) (turns opening ran.trace) =
        subst (λ (a : DoorAct). In (AtDoor (0 + length cut.0) a) (turns opening ran.trace)) (is_opened found.0.act found.2)
        (in_turns opening ran.trace (AtDoor (0 + length cut.0) found.0.act) (in_front (AtDoor (0 + length cut.0) found.0.act) (nodes_turns opening 1 ran.trace.nodes ++ door_turns opening 0 ran.trace.door) (office_turns opening [] ran.trace.office) (in_back (AtDoor (0 + length cut.0) found.0.act) (nodes_turns opening 1 ran.trace.nodes) (door_turns opening 0 ran.trace.door) there))) in
        let at : place ≡ length (door_steps before) = placed (without_office ran.trace) before rest one place (doors.Up node inc) is turned in
        let long : length (door_steps before) ≡ length cut.0 + suc (length cut.1) = ap (λ (l : List DoorEntry). length l) cut.2 ∙ length-append cut.0 (found.0 ∷ cut.1) in
        (0 + length cut.0, opened, omega arith)
      where
        is_opened : (act : DoorAct) → IsTrue (opens act) → act ≡ doors.Opened
        is_opened doors.Opened o = refl
        is_opened act o = absurd (false≢true o)

    opening_low : opening ≡ one.by → IsFalse (eqb node copier)
    opening_low own = begins_low (node_numbers asked.settings) (turns opening ran.trace) numbers_low (sorted_ascends [] (entries_of opening ran.trace) refl) (opens_parts asked ran so).1 opened_before.0 place node inc opened_before.1 (its_turn opening (sym own)) opened_before.2

    -- whoever comes up is no copier, unless a copy brings it up
    pub low_or_copy : ((line : Line) × In line (lines asked) × (line_of line ≡ one.by) × (line_among one.by (lines asked) ≡ Some line) × (line.order ≡ commands.Backup)) ⊎ IsFalse (eqb node copier)
    low_or_copy = cases (named_line one.by (lines asked))
      where
        cases : Named one.by (lines asked) → ((line : Line) × In line (lines asked) × (line_of line ≡ one.by) × (line_among one.by (lines asked) ≡ Some line) × (line.order ≡ commands.Backup)) ⊎ IsFalse (eqb node copier)
        cases (inl n) = elim (up_by n.0.order node inc (subst (λ (t : Turn). IsTrue (makes n.0.order t)) turned (turn_made asked ran so before rest one is n.0 n.1 n.2))) [
          | inl start ↦ inr (started_low n.0 n.1 n.2 start.0 start.1)
          | inr copy ↦ inl (n.0, n.1, n.2, n.3, copy)
        ]
        cases (inr n) = inr (elim (or_cases (same_line opening one.by) (list_any (λ (l : Line). same_line (line_of l) one.by) (lines asked)) (step_by (is_of_lines (lines asked)) ran.trace one (door_makers asked ran so) (node_makers asked ran so) among)) [
          | inl it ↦ opening_low (same_by opening one.by it)
          | inr other ↦ absurd (true≢false (sym other ∙ n.1))
        ])

    -- whoever comes up was begun to boot by its line, unless a copy brings it up
    pub booted_or_copy : (IsTrue (eqb node copier)) ⊎ BootBefore node inc (AtDoor place (doors.Up node inc)) (turns one.by ran.trace)
    booted_or_copy = cases (named_line one.by (lines asked))
      where
        by_start : (line : Line) → In line (lines asked) → line_of line ≡ one.by → (home : ℕ) → line.order ≡ commands.Start home → BootBefore node inc (AtDoor place (doors.Up node inc)) (turns one.by ran.trace)
        by_start line listed its home order =
            let come = has_come asked ran so line listed in
            subst (λ (b : By). BootBefore node inc (AtDoor place (doors.Up node inc)) (turns b ran.trace)) its
            (start_begun (ends_of (view_of asked ran line)) home (node_numbers asked.settings) (turns (line_of line) ran.trace) come.0
            (ap (λ (c : Command). leads_to c (node_numbers asked.settings) (ends_of (view_of asked ran line)) (turns (line_of line) ran.trace)) (sym order) ∙ come.1)
            (sorted_ascends [] (entries_of (line_of line) ran.trace) refl) place node inc (its_turn (line_of line) (sym its)))

        by_opening : opening ≡ one.by → BootBefore node inc (AtDoor place (doors.Up node inc)) (turns one.by ran.trace)
        by_opening own =
            subst (λ (b : By). BootBefore node inc (AtDoor place (doors.Up node inc)) (turns b ran.trace)) own
            (opening_begun (node_numbers asked.settings) (turns opening ran.trace) (sorted_ascends [] (entries_of opening ran.trace) refl) (opens_parts asked ran so).1 opened_before.0 place node inc opened_before.1 (its_turn opening (sym own)) opened_before.2)

        copies : (command : Command) → command ≡ commands.Backup → IsTrue (makes_at_door command (doors.Up node inc)) → IsTrue (eqb node copier)
        copies command copy made = subst (λ (c : Command). IsTrue (makes_at_door c (doors.Up node inc))) copy made

        cases : Named one.by (lines asked) → (IsTrue (eqb node copier)) ⊎ BootBefore node inc (AtDoor place (doors.Up node inc)) (turns one.by ran.trace)
        cases (inl n) =
            let made : IsTrue (makes_at_door n.0.order (doors.Up node inc)) = subst (λ (t : Turn). IsTrue (makes n.0.order t)) turned (turn_made asked ran so before rest one is n.0 n.1 n.2) in
            elim (up_by n.0.order node inc made) [
              | inl start ↦ inr (by_start n.0 n.1 n.2 start.0 start.1)
              | inr copy ↦ inl (copies n.0.order copy made)
            ]
        cases (inr n) = inr (elim (or_cases (same_line opening one.by) (list_any (λ (l : Line). same_line (line_of l) one.by) (lines asked)) (step_by (is_of_lines (lines asked)) ran.trace one (door_makers asked ran so) (node_makers asked ran so) among)) [
          | inl it ↦ by_opening (same_by opening one.by it)
          | inr other ↦ absurd (true≢false (sym other ∙ n.1))
        ])
