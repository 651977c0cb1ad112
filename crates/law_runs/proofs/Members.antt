-- The turns of a line are its entries, and each step of a run is a turn of its line.
use Rattle.std.proofs.Common.{Bool, List, [], ap, eqb, false, inl, inr, refl, subst, suc, sym, true, ℕ, ◌++◌, ◌∷◌, ◌≡◌, ◌⊎◌}
use Rattle.aft_lines.specs.Steps.{Made, made_at_front, made_at_node, made_at_nodes, steps, steps_from}
use Rattle.aft_lines.specs.Turns.{AtDoor, AtNode, AtOffice, Turn, door_turns, front_in, node_turns, nodes_turns, office_turns, precedes, turns, with_turn}
use Rattle.aft_model.proofs.Histories.{In, in_append, in_back, in_front}
use Rattle.aft_model.proofs.Lists.{in_filter}
use Rattle.aft_model.specs.ScanRun.{same_line}
use Rattle.aft_model.specs.declared.caller.By.{By}
use Rattle.aft_model.specs.declared.door.DoorEntry.{DoorEntry}
use Rattle.aft_model.specs.declared.node.NodeEntry.{NodeEntry}
use Rattle.aft_model.specs.declared.trace.Trace.{Trace}
use Rattle.law_claims.proofs.Scenes.{by_itself}
use Rattle.law_runs.specs.Runs.{without_office}
use Rattle.law_steps.proofs.Parts.{at_node}
use Rattle.law_steps.specs.OneList.{entries_of}
use Rattle.law_turns.specs.Order.{is_at_node, is_at_office}
use Rattle.std.proofs.lemmas.Bool.{and_parts, false≢true}
use Rattle.std.specs.List.{fold, list_all}
use Rattle.std.specs.Prelude.{IsTrue, if◌then◌else◌, map}

-- ---- turns that are put in order

with_in : (line : List Turn) (turn x : Turn) → In x line ⊎ (x ≡ turn) → In x (with_turn line turn)
with_in [] turn x (inl none) = absurd none
with_in [] turn x (inr is) = inl is
with_in (other ∷ line) turn x among = cases (precedes turn other) (with_in line turn x) among
  where
    cases : (t : Bool) → (In x line ⊎ (x ≡ turn) → In x (with_turn line turn)) → In x (other ∷ line) ⊎ (x ≡ turn) → In x (if t then turn ∷ other ∷ line else other ∷ with_turn line turn)
    cases true rest (inl old) = inr old
    cases true rest (inr is) = inl is
    cases false rest (inl (inl is)) = inl is
    cases false rest (inl (inr later)) = inr (rest (inl later))
    cases false rest (inr is) = inr (rest (inr is))

in_with : (line : List Turn) (turn x : Turn) → In x (with_turn line turn) → In x line ⊎ (x ≡ turn)
in_with [] turn x (inl is) = inr is
in_with [] turn x (inr none) = absurd none
in_with (other ∷ line) turn x among = cases (precedes turn other) (in_with line turn x) among
  where
    cases : (t : Bool) → (In x (with_turn line turn) → In x line ⊎ (x ≡ turn)) → In x (if t then turn ∷ other ∷ line else other ∷ with_turn line turn) → In x (other ∷ line) ⊎ (x ≡ turn)
    cases true rest (inl is) = inr is
    cases true rest (inr old) = inl old
    cases false rest (inl is) = inl (inl is)
    cases false rest (inr later) = elim (rest later) [ inl old ↦ inl (inr old) | inr is ↦ inr is ]

sorted_in : (acc line : List Turn) (x : Turn) → In x acc ⊎ In x line → In x (fold with_turn acc line)
sorted_in acc [] x (inl among) = among
sorted_in acc [] x (inr none) = absurd none
sorted_in acc (turn ∷ line) x (inl among) = sorted_in (with_turn acc turn) line x (inl (with_in acc turn x (inl among)))
sorted_in acc (turn ∷ line) x (inr (inl is)) = sorted_in (with_turn acc turn) line x (inl (with_in acc turn x (inr is)))
sorted_in acc (turn ∷ line) x (inr (inr later)) = sorted_in (with_turn acc turn) line x (inr later)

in_sorted : (acc line : List Turn) (x : Turn) → In x (fold with_turn acc line) → In x acc ⊎ In x line
in_sorted acc [] x among = inl among
in_sorted acc (turn ∷ line) x among = elim (in_sorted (with_turn acc turn) line x among) [
  | inl old ↦ elim (in_with acc turn x old) [ inl before ↦ inl before | inr is ↦ inr (inl is) ]
  | inr later ↦ inr (inr later)
]

pub in_turns : (by : By) (trace : Trace) (x : Turn) → In x (entries_of by trace) → In x (turns by trace)
in_turns by trace x among = sorted_in [] (entries_of by trace) x (inr among)

pub turns_in : (by : By) (trace : Trace) (x : Turn) → In x (turns by trace) → In x (entries_of by trace)
turns_in by trace x among = elim (in_sorted [] (entries_of by trace) x among) [ inl none ↦ absurd none | inr it ↦ it ]

-- ---- steps

at_node_in : (node : ℕ) (before history : List NodeEntry) (one : Made) → In one (made_at_node node before history) → In one.turn (node_turns one.by node before history)
at_node_in node before [] one among = absurd among
at_node_in node before (entry ∷ entries) one (inl is) = subst (λ (m : Made). In m.turn (node_turns m.by node before (entry ∷ entries))) (sym is) here
  where
    here : In (AtNode node before entry) (node_turns entry.by node before (entry ∷ entries))
    here = subst (λ (b : Bool). In (AtNode node before entry) ((if b then AtNode node before entry ∷ [] else []) ++ node_turns entry.by node (before ++ entry ∷ []) entries)) (sym (by_itself entry.by)) (inl refl)
at_node_in node before (entry ∷ entries) one (inr later) =
    in_back one.turn (if same_line one.by entry.by then AtNode node before entry ∷ [] else []) (node_turns one.by node (before ++ entry ∷ []) entries) (at_node_in node (before ++ entry ∷ []) entries one later)

at_nodes_in : (node : ℕ) (histories : List (List NodeEntry)) (one : Made) → In one (made_at_nodes node histories) → In one.turn (nodes_turns one.by node histories)
at_nodes_in node [] one among = absurd among
at_nodes_in node (history ∷ histories) one among =
    elim (in_append one (made_at_node node [] history) (made_at_nodes (suc node) histories) among) [
      | inl here ↦ in_front one.turn (node_turns one.by node [] history) (nodes_turns one.by (suc node) histories) (at_node_in node [] history one here)
      | inr later ↦ in_back one.turn (node_turns one.by node [] history) (nodes_turns one.by (suc node) histories) (at_nodes_in (suc node) histories one later)
    ]

at_door_in : (others : List Made) (place : ℕ) (door : List DoorEntry) (one : Made) → In one (steps_from others place door) → In one others ⊎ In one.turn (door_turns one.by place door)
at_door_in others place [] one among = inl (in_filter (λ (m : Made). eqb (front_in m.turn) place) one others among).0
at_door_in others place (entry ∷ entries) one among =
    elim (in_append one (made_at_front place others) (record { by = entry.by; turn = AtDoor place entry.act } ∷ steps_from others (suc place) entries) among) [
      | inl other ↦ inl (in_filter (λ (m : Made). eqb (front_in m.turn) place) one others other).0
      | inr behind ↦ at_behind (λ later. at_door_in others (suc place) entries one later) behind
    ]
  where
    here : In (AtDoor place entry.act) (door_turns entry.by place (entry ∷ entries))
    here = subst (λ (b : Bool). In (AtDoor place entry.act) ((if b then AtDoor place entry.act ∷ [] else []) ++ door_turns entry.by (suc place) entries)) (sym (by_itself entry.by)) (inl refl)

    at_behind : (In one (steps_from others (suc place) entries) → In one others ⊎ In one.turn (door_turns one.by (suc place) entries)) → In one (record { by = entry.by; turn = AtDoor place entry.act } ∷ steps_from others (suc place) entries) → In one others ⊎ In one.turn (door_turns one.by place (entry ∷ entries))
    at_behind rest (inl is) = inr (subst (λ (m : Made). In m.turn (door_turns m.by place (entry ∷ entries))) (sym is) here)
    at_behind rest (inr later) = elim (rest later) [
      | inl other ↦ inl other
      | inr turned ↦ inr (in_back one.turn (if same_line one.by entry.by then AtDoor place entry.act ∷ [] else []) (door_turns one.by (suc place) entries) turned)
    ]

-- each step of a run is a turn of its line
pub step_in : (trace : Trace) (one : Made) → In one (steps (without_office trace)) → In one.turn (entries_of one.by trace)
step_in trace one among =
    elim (at_door_in (made_at_nodes 1 trace.nodes ++ []) 0 trace.door one among) [
      | inl other ↦ elim (in_append one (made_at_nodes 1 trace.nodes) [] other) [
        | inl node ↦ in_front one.turn (nodes_turns one.by 1 trace.nodes ++ door_turns one.by 0 trace.door) (office_turns one.by [] trace.office) (in_front one.turn (nodes_turns one.by 1 trace.nodes) (door_turns one.by 0 trace.door) (at_nodes_in 1 trace.nodes one node))
        | inr none ↦ absurd none
      ]
      | inr door ↦ in_front one.turn (nodes_turns one.by 1 trace.nodes ++ door_turns one.by 0 trace.door) (office_turns one.by [] trace.office) (in_back one.turn (nodes_turns one.by 1 trace.nodes) (door_turns one.by 0 trace.door) door)
    ]

-- ---- whose steps

module _ (test : By → Bool) where
  node_by : (node : ℕ) (before history : List NodeEntry) (one : Made) → IsTrue (list_all test (map (λ (e : NodeEntry). e.by) history)) → In one (made_at_node node before history) → IsTrue (test one.by)
  node_by node before [] one all among = absurd among
  node_by node before (entry ∷ entries) one all (inl is) = subst (λ (m : Made). IsTrue (test m.by)) (sym is) (and_parts (test entry.by) (list_all test (map (λ (e : NodeEntry). e.by) entries)) all).0
  node_by node before (entry ∷ entries) one all (inr later) = node_by node (before ++ entry ∷ []) entries one (and_parts (test entry.by) (list_all test (map (λ (e : NodeEntry). e.by) entries)) all).1 later

  nodes_by : (node : ℕ) (histories : List (List NodeEntry)) (one : Made) → IsTrue (list_all (list_all test) (map (map (λ (e : NodeEntry). e.by)) histories)) → In one (made_at_nodes node histories) → IsTrue (test one.by)
  nodes_by node [] one all among = absurd among
  nodes_by node (history ∷ histories) one all among =
      let parts = and_parts (list_all test (map (λ (e : NodeEntry). e.by) history)) (list_all (list_all test) (map (map (λ (e : NodeEntry). e.by)) histories)) all in
      elim (in_append one (made_at_node node [] history) (made_at_nodes (suc node) histories) among) [
        | inl here ↦ node_by node [] history one parts.0 here
        | inr later ↦ nodes_by (suc node) histories one parts.1 later
      ]

  door_by : (others : List Made) (place : ℕ) (door : List DoorEntry) (one : Made) → IsTrue (list_all test (map (λ (e : DoorEntry). e.by) door)) → ((m : Made) → In m others → IsTrue (test m.by)) → In one (steps_from others place door) → IsTrue (test one.by)
  door_by others place [] one all each among = each one (in_filter (λ (m : Made). eqb (front_in m.turn) place) one others among).0
  door_by others place (entry ∷ entries) one all each among =
      let parts = and_parts (test entry.by) (list_all test (map (λ (e : DoorEntry). e.by) entries)) all in
      elim (in_append one (made_at_front place others) (record { by = entry.by; turn = AtDoor place entry.act } ∷ steps_from others (suc place) entries) among) [
        | inl other ↦ each one (in_filter (λ (m : Made). eqb (front_in m.turn) place) one others other).0
        | inr behind ↦ at_behind (λ later. door_by others (suc place) entries one parts.1 each later) parts.0 behind
      ]
    where
      at_behind : (In one (steps_from others (suc place) entries) → IsTrue (test one.by)) → IsTrue (test entry.by) → In one (record { by = entry.by; turn = AtDoor place entry.act } ∷ steps_from others (suc place) entries) → IsTrue (test one.by)
      at_behind more first (inl is) = subst (λ (m : Made). IsTrue (test m.by)) (sym is) first
      at_behind more first (inr later) = more later

  pub step_by : (trace : Trace) (one : Made) → IsTrue (list_all test (map (λ (e : DoorEntry). e.by) trace.door)) → IsTrue (list_all (list_all test) (map (map (λ (e : NodeEntry). e.by)) trace.nodes)) → In one (steps (without_office trace)) → IsTrue (test one.by)
  step_by trace one door nodes among =
      door_by (made_at_nodes 1 trace.nodes ++ []) 0 trace.door one door
      (λ m other. elim (in_append m (made_at_nodes 1 trace.nodes) [] other) [ inl node ↦ nodes_by 1 trace.nodes m nodes node | inr none ↦ absurd none ]) among

-- ---- none at the office

nodes_no_office : (node : ℕ) (histories : List (List NodeEntry)) (one : Made) → In one (made_at_nodes node histories) → is_at_office one.turn ≡ false
nodes_no_office node [] one among = absurd among
nodes_no_office node (history ∷ histories) one among = elim (in_append one (made_at_node node [] history) (made_at_nodes (suc node) histories) among) [
  | inl here ↦ no_node one.turn (at_node node [] history one here)
  | inr later ↦ nodes_no_office (suc node) histories one later
]
  where
    no_node : (turn : Turn) → is_at_node node turn ≡ true → is_at_office turn ≡ false
    no_node (AtDoor place act) is = refl
    no_node (AtNode at before entry) is = refl
    no_node (AtOffice before entry) is = absurd (false≢true is)

door_no_office : (by : By) (place : ℕ) (door : List DoorEntry) (x : Turn) → In x (door_turns by place door) → is_at_office x ≡ false
door_no_office by place [] x among = absurd among
door_no_office by place (entry ∷ door) x among = elim (in_append x (if same_line by entry.by then AtDoor place entry.act ∷ [] else []) (door_turns by (suc place) door) among) [
  | inl here ↦ at_here (same_line by entry.by) here
  | inr later ↦ door_no_office by (suc place) door x later
]
  where
    at_here : (b : Bool) → In x (if b then AtDoor place entry.act ∷ [] else []) → is_at_office x ≡ false
    at_here true (inl is) = ap is_at_office is
    at_here true (inr none) = absurd none
    at_here false none = absurd none

pub no_office_step : (trace : Trace) (one : Made) → In one (steps (without_office trace)) → is_at_office one.turn ≡ false
no_office_step trace one among =
    elim (at_door_in (made_at_nodes 1 trace.nodes ++ []) 0 trace.door one among) [
      | inl other ↦ elim (in_append one (made_at_nodes 1 trace.nodes) [] other) [ inl node ↦ nodes_no_office 1 trace.nodes one node | inr none ↦ absurd none ]
      | inr door ↦ door_no_office one.by 0 trace.door one.turn door
    ]
