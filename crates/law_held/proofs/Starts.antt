-- An incarnation of a node that is up is booting or served; so a start that is to bring one up finds no other of its node up.
use Rattle.std.proofs.Common.{◌≡◌, ℕ, suc, ◌+◌, ◌≤◌, Bool, true, false, ◌||◌, not, List, [], ◌∷◌, ◌++◌, length, length-append, refl, sym, ap, subst, ◌∙◌, ◌⊎◌, inl, inr, eqb, arith, append_assoc}
use Rattle.std.specs.Prelude.{IsTrue, filter, if◌then◌else◌}
use Rattle.std.specs.List.{flat_map, list_any}
use Rattle.std.proofs.lemmas.Bool.{and_parts, eq-eqb, eqb-true, false≢true, ne_eqb, not-true, or_cases, or_left, or_right, true≢false}
use Rattle.std.proofs.lemmas.List.Concat.{flat_map-append}
use Rattle.aft_model.specs.declared.caller.By.{By}
use Rattle.aft_model.specs.declared.door.DoorAct.{DoorAct}
use Rattle.aft_model.specs.declared.door.DoorAct.TheVariants as doors
use Rattle.aft_model.specs.declared.door.DoorEntry.{DoorEntry}
use Rattle.aft_model.specs.declared.node.NodeEntry.{NodeEntry}
use Rattle.aft_model.specs.LegalDoor.{Legal, may_follow}
use Rattle.aft_model.specs.Membership.{Incarnation, incarnation, is_up, same_incarnation, the_office, up_after, ups}
use Rattle.aft_model.specs.NodeSights.{comes_up}
use Rattle.aft_model.specs.NodeState.{boots, node_state, serves}
use Rattle.aft_model.specs.ScanRun.{same_line}
use Rattle.aft_model.proofs.Histories.{In, any_found, any_from, each_after_kept, each_after_split, in_append, in_back, in_flat_map, in_front}
use Rattle.aft_model.proofs.Lists.{in_filter}
use Rattle.aft_model.proofs.OneCommit.{same_who}
use Rattle.aft_lines.specs.Asked.{Asked, Ran}
use Rattle.aft_lines.specs.BackupCourse.{copier}
use Rattle.aft_lines.specs.LineView.{door_entry_in}
use Rattle.aft_lines.specs.Steps.{Made, door_steps}
use Rattle.aft_lines.specs.Turns.{AtDoor, AtNode, AtOffice, Turn, door_turns, moment, node_turns, nodes_turns, office_turns, turns}
use Rattle.law_holders.specs.Rows.{is_of_node}
use Rattle.law_claims.specs.Moments.{node_entry_in, node_steps}
use Rattle.law_claims.proofs.Fenced.{fenced_down}
use Rattle.law_runs.specs.Runs.{Goes, run_steps, without_office}
use Rattle.law_runs.proofs.Come.{front_is}
use Rattle.law_runs.proofs.Members.{turns_in}
use Rattle.law_runs.proofs.Retires.{split_at}
use Rattle.law_steps.proofs.Histories.{door_is}
use Rattle.law_steps.specs.Histories.{history_in}
use Rattle.law_held.proofs.Begun.{BootBefore, boots_in}
use Rattle.law_held.proofs.Boots.{Stood, begins_boot, stood_behind}
use Rattle.law_held.proofs.ComesUp.{booted_or_copy, door_none, office_none}
use Rattle.law_held.proofs.Fetches.{any_more}
use Rattle.law_held.proofs.Held.{stands_at}
use Rattle.law_held.proofs.Placed.{placed}
use Rattle.law_held.proofs.Serving.{Came, ups-snoc}

-- ---- lists

pub flat_in : {A B : Type 0} (f : A → List B) (x : A) (y : B) (xs : List A) → In x xs → In y (f x) → In y (flat_map f xs)
flat_in f x y [] none there = absurd none
flat_in f x y (z ∷ xs) (inl is) there = in_front y (f z) (flat_map f xs) (subst (λ w. In y (f w)) is there)
flat_in f x y (z ∷ xs) (inr later) there = in_back y (f z) (flat_map f xs) (flat_in f x y xs later there)

-- an element of a list stands before another, is it, or stands behind it
two_splits : {A : Type 0} (pre before : List A) (m one : A) (post rest : List A) → pre ++ m ∷ post ≡ before ++ one ∷ rest → In m before ⊎ (m ≡ one) ⊎ ((zs : List A) × (pre ≡ before ++ one ∷ zs))
two_splits [] [] m one post rest is = inr (inl (cc))
two_splits [] (b ∷ before) m one post rest is = inl (inl (cc))
two_splits (p ∷ pre) [] m one post rest is = inr (inr (pre, ap (λ x. x ∷ pre) (let e : p ≡ one = cc in e)))
two_splits (p ∷ pre) (b ∷ before) m one post rest is = elim (two_splits pre before m one post rest (cc)) [
  | inl there ↦ inl (inr there)
  | inr other ↦ elim other [
    | inl same ↦ inr (inl same)
    | inr behind ↦ inr (inr (behind.0, (let e : p ≡ b = cc in ap (λ x. x ∷ pre) e ∙ ap (λ l. b ∷ l) behind.1)))
  ]
]

-- ---- a turn at a node is an entry of it

node_split : (by : By) (node : ℕ) (before h : List NodeEntry) (at : ℕ) (history : List NodeEntry) (entry : NodeEntry) → In (AtNode at history entry) (node_turns by node before h) → (at ≡ node) × ((more : List NodeEntry) × (before ++ h ≡ history ++ entry ∷ more))
node_split by node before [] at history entry none = absurd none
node_split by node before (e ∷ h) at history entry among = elim (in_append (AtNode at history entry) (if same_line by e.by then AtNode node before e ∷ [] else []) (node_turns by node (before ++ e ∷ []) h) among) [
  | inl here ↦ at_here (same_line by e.by) here
  | inr later ↦ (let rest = node_split by node (before ++ e ∷ []) h at history entry later in (rest.0, (rest.1.0, sym (append_assoc before (e ∷ []) h) ∙ rest.1.1)))
]
  where
    number : Turn → ℕ
    number (AtNode n b x) = n
    number turn = 0

    behind : Turn → List NodeEntry
    behind (AtNode n b x) = b ++ x ∷ h
    behind turn = []

    at_here : (b : Bool) → In (AtNode at history entry) (if b then AtNode node before e ∷ [] else []) → (at ≡ node) × ((more : List NodeEntry) × (before ++ e ∷ h ≡ history ++ entry ∷ more))
    at_here true (inl is) = (ap number is, (h, sym (ap behind is)))
    at_here true (inr none) = absurd none
    at_here false none = absurd none

pub nodes_split : (by : By) (node : ℕ) (histories : List (List NodeEntry)) (at : ℕ) (history : List NodeEntry) (entry : NodeEntry) → In (AtNode at history entry) (nodes_turns by node histories) → (node ≤ at) × ((more : List NodeEntry) × (history_in at node histories ≡ history ++ entry ∷ more))
nodes_split by node [] at history entry none = absurd none
nodes_split by node (h ∷ histories) at history entry among = elim (in_append (AtNode at history entry) (node_turns by node [] h) (nodes_turns by (suc node) histories) among) [
  | inl here ↦ (let its = node_split by node [] h at history entry here in let is = its.0 in (omega arith, (its.1.0, ap (λ (b : Bool). if b then h else history_in at (suc node) histories) (eq-eqb at node is) ∙ its.1.1)))
  | inr later ↦
      (let its = nodes_split by (suc node) histories at history entry later in
      let low : suc node ≤ at = its.0 in
      (omega arith, (its.1.0, ap (λ (b : Bool). if b then h else history_in at (suc node) histories) (ne_eqb at node (λ same. (let l : suc node ≤ at = low in let s : at ≡ node = same in omega arith))) ∙ its.1.1)))
]

-- ---- who is up came up

up_came : (who : Incarnation) (history : List DoorEntry) → Legal history → IsTrue (is_up who history) → (who ≡ the_office) ⊎ Came who history
up_came who history legal = each_after_kept may_follow (λ (h : List DoorEntry). IsTrue (is_up who h) → (who ≡ the_office) ⊎ Came who h) (λ h entry sofar rule before up. next h entry before (subst (λ (l : List Incarnation). IsTrue (list_any (same_incarnation who) l)) (ups-snoc who h entry) up)) [] history legal at_first
  where
    at_first : IsTrue (is_up who []) → (who ≡ the_office) ⊎ Came who []
    at_first up = elim (or_cases (same_incarnation who the_office) false up) [ inl it ↦ inl (same_who who the_office it) | inr none ↦ absurd (false≢true none) ]

    further : (h : List DoorEntry) (entry : DoorEntry) → (who ≡ the_office) ⊎ Came who h → (who ≡ the_office) ⊎ Came who (h ++ entry ∷ [])
    further h entry (inl office) = inl office
    further h entry (inr came) = inr (any_more (λ (e : DoorEntry). comes_up who e.act) h (entry ∷ []) came)

    by_act : (h : List DoorEntry) (act : DoorAct) → IsTrue (list_any (same_incarnation who) (up_after (ups h) act)) → IsTrue (comes_up who act) ⊎ IsTrue (is_up who h)
    by_act h (doors.Up node inc) up = or_cases (same_incarnation who (incarnation node inc)) (is_up who h) up
    by_act h (doors.Fence node inc) up =
        let found = any_found (same_incarnation who) (filter (λ (i : Incarnation). not (same_incarnation (incarnation node inc) i)) (ups h)) up in
        inr (any_from (same_incarnation who) found.0 (ups h) (in_filter (λ (i : Incarnation). not (same_incarnation (incarnation node inc) i)) found.0 (ups h) found.1).0 found.2)
    by_act h act up = inr up

    next : (h : List DoorEntry) (entry : DoorEntry) → (IsTrue (is_up who h) → (who ≡ the_office) ⊎ Came who h) → IsTrue (list_any (same_incarnation who) (up_after (ups h) entry.act)) → (who ≡ the_office) ⊎ Came who (h ++ entry ∷ [])
    next h entry before up = elim (by_act h entry.act up) [
      | inl now ↦ inr (any_from (λ (e : DoorEntry). comes_up who e.act) entry (h ++ entry ∷ []) (in_back entry h (entry ∷ []) (inl refl)) now)
      | inr was ↦ further h entry (before was)
    ]

-- ---- a run

module _ (asked : Asked) (ran : Ran) (so : Goes asked ran) where
  -- a turn at a node is a step behind as much of the door as its front says
  pub turn_step : (by : By) (at : ℕ) (history : List NodeEntry) (entry : NodeEntry) → In (AtNode at history entry) (turns by ran.trace)
      → (pre : List Made) × (post : List Made) × (run_steps ran ≡ pre ++ record { by = entry.by; turn = AtNode at history entry } ∷ post)
  turn_step by at history entry among =
      elim (in_append (AtNode at history entry) (nodes_turns by 1 ran.trace.nodes ++ door_turns by 0 ran.trace.door) (office_turns by [] ran.trace.office) (turns_in by ran.trace (AtNode at history entry) among)) [
        | inl front ↦ elim (in_append (AtNode at history entry) (nodes_turns by 1 ran.trace.nodes) (door_turns by 0 ran.trace.door) front) [
          | inl node ↦ (let its = nodes_split by 1 ran.trace.nodes at history entry node in stands_at asked ran so at history entry its.1.0 its.1.1)
          | inr door ↦ absurd (door_none by 0 ran.trace.door at history entry door)
        ]
        | inr office ↦ absurd (office_none by [] ran.trace.office at history entry office)
      ]

  legal_at : (before rest : List Made) → run_steps ran ≡ before ++ rest → Legal (door_steps before)
  legal_at before rest is =
      (each_after_split may_follow [] (door_steps before) (door_steps rest)
      (subst Legal (sym (door_is (without_office ran.trace)) ∙ (ap door_steps is ∙ flat_map-append (λ (m : Made). door_entry_in m.by m.turn) before rest)) so.door)).0

  -- a boot that began no later than a step at the door stands among those before it
  module _ (before rest : List Made) (one : Made) (is : run_steps ran ≡ before ++ one ∷ rest) (place node inc : ℕ) (turned : one.turn ≡ AtDoor place (doors.Up node inc)) where
    begun_before : BootBefore node inc (AtDoor place (doors.Up node inc)) (turns one.by ran.trace) → IsTrue (list_any (λ (e : NodeEntry). begins_boot inc e.act) (node_steps node before))
    begun_before boot = by_turn boot.0 boot.1 boot.2 boot.3
      where
        at_place : place ≡ length (door_steps before)
        at_place = placed (without_office ran.trace) before rest one place (doors.Up node inc) is turned

        is_turn : Turn → Bool
        is_turn (AtDoor p a) = true
        is_turn t = false

        among : (at : ℕ) (history : List NodeEntry) (entry : NodeEntry) (pre post : List Made) → run_steps ran ≡ pre ++ record { by = entry.by; turn = AtNode at history entry } ∷ post → entry.front ≤ place → In (record { by = entry.by; turn = AtNode at history entry }) before
        among at history entry pre post whole early =
            let m : Made = record { by = entry.by; turn = AtNode at history entry } in
            let front : length (door_steps pre) ≡ entry.front = front_is asked ran so pre post m whole refl in
            elim (two_splits pre before m one post rest (sym whole ∙ is)) [
              | inl there ↦ there
              | inr other ↦ elim other [
                | inl same ↦ absurd (false≢true (ap (λ (x : Made). is_turn x.turn) same ∙ ap is_turn turned))
                | inr behind ↦
                    let long : length (door_steps pre) ≡ length (door_steps before) + suc (length (door_steps behind.0)) =
                    ap (λ (l : List Made). length (door_steps l)) behind.1
                    ∙ (ap (λ (l : List DoorEntry). length l) (flat_map-append (λ (x : Made). door_entry_in x.by x.turn) before (one ∷ behind.0))
                    ∙ (ap (λ (t : Turn). length (door_steps before ++ (door_entry_in one.by t ++ door_steps behind.0))) turned ∙ length-append (door_steps before) (record { by = one.by; act = doors.Up node inc } ∷ door_steps behind.0))) in
                    absurd (let a = at_place in omega arith)
              ]
            ]

        by_turn : (y : Turn) → IsTrue (boots_in node inc y) → In y (turns one.by ran.trace) → moment y ≤ moment (AtDoor place (doors.Up node inc)) → IsTrue (list_any (λ (e : NodeEntry). begins_boot inc e.act) (node_steps node before))
        by_turn (AtDoor p a) its there least = absurd (false≢true its)
        by_turn (AtOffice h e) its there least = absurd (false≢true its)
        by_turn (AtNode at history entry) its there least =
            let parts = and_parts (eqb node at) (begins_boot inc entry.act) its in
            let step = turn_step one.by at history entry there in
            let early : entry.front ≤ place = (let l : entry.front + entry.front ≤ place + place + 1 = least in omega arith) in
            any_from (λ (e : NodeEntry). begins_boot inc e.act) entry (node_steps node before)
            (flat_in (λ (x : Made). node_entry_in node x.turn) (record { by = entry.by; turn = AtNode at history entry }) entry before (among at history entry step.0 step.1 step.2 early)
            (subst (λ (b : Bool). In entry (if b then entry ∷ [] else [])) (sym (eq-eqb at node (sym (eqb-true node at parts.0)))) (inl refl))) parts.1

  -- at each moment an incarnation of a node that is up is booting or served
  pub ups_boot : (before rest : List Made) → run_steps ran ≡ before ++ rest → (node inc : ℕ) → IsTrue (is_of_node (incarnation node inc)) → IsTrue (is_up (incarnation node inc) (door_steps before)) → IsTrue (boots inc (node_state (node_steps node before)) || serves inc (node_state (node_steps node before)))
  ups_boot before rest is node inc of up = elim (up_came (incarnation node inc) (door_steps before) (legal_at before rest is) up) [
    | inl office ↦ absurd (false≢true (subst (λ (w : Incarnation). IsTrue (is_of_node w)) office of))
    | inr came ↦ stands (stood_behind asked ran so before rest is node inc (begun came))
  ]
    where
      stands : Stood node (node_state (node_steps node before)) inc (door_steps before) → IsTrue (boots inc (node_state (node_steps node before)) || serves inc (node_state (node_steps node before)))
      stands (inl boot) = or_left (boots inc (node_state (node_steps node before))) (serves inc (node_state (node_steps node before))) boot
      stands (inr (inl serve)) = or_right (boots inc (node_state (node_steps node before))) (serves inc (node_state (node_steps node before))) serve
      stands (inr (inr gone)) = absurd (true≢false (sym up ∙ fenced_down (incarnation node inc) (door_steps before) (legal_at before rest is) gone))

      its_act : (act : DoorAct) → IsTrue (comes_up (incarnation node inc) act) → act ≡ doors.Up node inc
      its_act (doors.Up n i) it = ap (λ (w : Incarnation). doors.Up w.node w.inc) (sym (same_who (incarnation node inc) (incarnation n i) it))
      its_act act it = absurd (false≢true it)

      at_turn : (by : By) (turn : Turn) (e : DoorEntry) → In e (door_entry_in by turn) → (p : ℕ) × (turn ≡ AtDoor p e.act)
      at_turn by (AtDoor p a) e (inl same) = (p, ap (λ (x : DoorEntry). AtDoor p x.act) (sym same))
      at_turn by (AtDoor p a) e (inr none) = absurd none
      at_turn by (AtNode n h x) e none = absurd none
      at_turn by (AtOffice h x) e none = absurd none

      begun : Came (incarnation node inc) (door_steps before) → IsTrue (list_any (λ (e : NodeEntry). begins_boot inc e.act) (node_steps node before))
      begun came =
          let found = any_found (λ (e : DoorEntry). comes_up (incarnation node inc) e.act) (door_steps before) came in
          let made = in_flat_map (λ (m : Made). door_entry_in m.by m.turn) found.0 before found.1 in
          let turn = at_turn made.0.by made.0.turn found.0 made.2 in
          let turned : made.0.turn ≡ AtDoor turn.0 (doors.Up node inc) = turn.1 ∙ ap (AtDoor turn.0) (its_act found.0.act found.2) in
          let cut = split_at made.0 before made.1 in
          let whole : run_steps ran ≡ cut.0 ++ made.0 ∷ (cut.1 ++ rest) = is ∙ (ap (λ (l : List Made). l ++ rest) cut.2 ∙ append_assoc cut.0 (made.0 ∷ cut.1) rest) in
          elim (booted_or_copy asked ran so cut.0 (cut.1 ++ rest) made.0 whole turn.0 node inc turned) [
            | inl copy ↦ absurd (true≢false (sym copy ∙ not-true (eqb node copier) (and_parts (not (eqb node 0)) (not (eqb node copier)) of).1))
            | inr boot ↦
                subst (λ (l : List NodeEntry). IsTrue (list_any (λ (e : NodeEntry). begins_boot inc e.act) l)) (sym (ap (node_steps node) cut.2 ∙ flat_map-append (λ (m : Made). node_entry_in node m.turn) cut.0 (made.0 ∷ cut.1)))
                (any_more (λ (e : NodeEntry). begins_boot inc e.act) (node_steps node cut.0) (node_steps node (made.0 ∷ cut.1)) (begun_before cut.0 (cut.1 ++ rest) made.0 whole turn.0 node inc turned boot))
          ]
