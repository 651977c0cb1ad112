-- Each step stands behind as many of the door's entries as its front says.
use Rattle.std.proofs.Common.{◌≡◌, ℕ, suc, List, [], ◌∷◌, ◌++◌, refl, sym, ap, subst, ◌∙◌, inl, inr, eqb, arith, length, append-nil, append_assoc}
use Rattle.std.specs.Prelude.{IsTrue}
use Rattle.std.proofs.lemmas.Bool.{and_parts, and_from, or_left, or_right, eqb-true, eq-eqb}
use Rattle.std.proofs.lemmas.List.{length-append}
use Rattle.std.proofs.lemmas.List.Concat.{flat_map-append}
use Rattle.aft_model.specs.declared.door.DoorEntry.{DoorEntry}
use Rattle.aft_model.specs.declared.node.NodeEntry.{NodeEntry}
use Rattle.aft_model.specs.declared.office.OfficeEntry.{OfficeEntry}
use Rattle.aft_model.specs.declared.trace.Trace.{Trace}
use Rattle.aft_model.specs.History.{each_after}
use Rattle.aft_model.proofs.Histories.{In, in_append}
use Rattle.aft_model.proofs.Lists.{in_filter}
use Rattle.aft_lines.specs.LineView.{door_entry_in}
use Rattle.aft_lines.specs.Steps.{HaveExactFronts, Made, door_steps, is_at_front, is_door_step, made_at_front, made_at_node, made_at_nodes, made_at_office, steps_from}
use Rattle.aft_lines.specs.Turns.{AtDoor, front_in}

-- the steps that are not the door's
abbrev pub others_of : Trace → List Made
others_of trace = made_at_nodes 1 trace.nodes ++ made_at_office [] trace.office

-- none of them is
abbrev pub AreOthers : List Made → Type 0
AreOthers others = (one : Made) → In one others → door_entry_in one.by one.turn ≡ []

node_others : (node : ℕ) (before history : List NodeEntry) → AreOthers (made_at_node node before history)
node_others node before [] one among = absurd among
node_others node before (entry ∷ entries) one (inl is) = ap (λ (m : Made). door_entry_in m.by m.turn) is
node_others node before (entry ∷ entries) one (inr later) = node_others node (before ++ entry ∷ []) entries one later

nodes_others : (node : ℕ) (histories : List (List NodeEntry)) → AreOthers (made_at_nodes node histories)
nodes_others node [] one among = absurd among
nodes_others node (history ∷ histories) one among =
    elim (in_append one (made_at_node node [] history) (made_at_nodes (suc node) histories) among) [ inl here ↦ node_others node [] history one here | inr later ↦ nodes_others (suc node) histories one later ]

office_others : (before office : List OfficeEntry) → AreOthers (made_at_office before office)
office_others before [] one among = absurd among
office_others before (entry ∷ entries) one (inl is) = ap (λ (m : Made). door_entry_in m.by m.turn) is
office_others before (entry ∷ entries) one (inr later) = office_others (before ++ entry ∷ []) entries one later

pub all_others : (trace : Trace) → AreOthers (others_of trace)
all_others trace one among =
    elim (in_append one (made_at_nodes 1 trace.nodes) (made_at_office [] trace.office) among) [ inl node ↦ nodes_others 1 trace.nodes one node | inr office ↦ office_others [] trace.office one office ]

-- ---- the rule, step by step

module _ (others : List Made) (are : AreOthers others) where
  -- those of one front, where so many of the door's entries stand before them
  front_kept : (before these : List Made) (front : ℕ) → length (door_steps before) ≡ front → ((one : Made) → In one these → (front_in one.turn ≡ front) × (door_entry_in one.by one.turn ≡ []))
      → IsTrue (each_after is_at_front before these) × (length (door_steps (before ++ these)) ≡ front)
  front_kept before [] front long each = (refl, ap (λ (l : List Made). length (door_steps l)) (append-nil before) ∙ long)
  front_kept before (one ∷ these) front long each =
      let its = each one (inl refl) in
      let same : length (door_steps (before ++ one ∷ [])) ≡ front =
      ap length (flat_map-append (λ (m : Made). door_entry_in m.by m.turn) before (one ∷ [])) ∙ ap (λ (l : List DoorEntry). length (door_steps before ++ (l ++ []))) its.1 ∙ ap length (append-nil (door_steps before)) ∙ long in
      let rest = front_kept (before ++ one ∷ []) these front same (λ m among. each m (inr among)) in
      (and_from _ _ (or_right _ _ (eq-eqb (length (door_steps before)) (front_in one.turn) (long ∙ sym its.0))) rest.0, ap (λ (l : List Made). length (door_steps l)) (sym (append_assoc before (one ∷ []) these)) ∙ rest.1)

  of_front : (front : ℕ) (one : Made) → In one (made_at_front front others) → (front_in one.turn ≡ front) × (door_entry_in one.by one.turn ≡ [])
  of_front front one among = (let found = in_filter (λ (m : Made). eqb (front_in m.turn) front) one others among in (eqb-true (front_in one.turn) front found.1, are one found.0))

  joined : (before xs ys : List Made) → IsTrue (each_after is_at_front before xs) → IsTrue (each_after is_at_front (before ++ xs) ys) → IsTrue (each_after is_at_front before (xs ++ ys))
  joined before [] ys all all' = subst (λ (l : List Made). IsTrue (each_after is_at_front l ys)) (append-nil before) all'
  joined before (x ∷ xs) ys all all' =
      let parts = and_parts (is_at_front before x) (each_after is_at_front (before ++ x ∷ []) xs) all in
      and_from _ _ parts.0 (joined (before ++ x ∷ []) xs ys parts.1 (subst (λ (l : List Made). IsTrue (each_after is_at_front l ys)) (sym (append_assoc before (x ∷ []) xs)) all'))

  pub exact_from : (before : List Made) (place : ℕ) (door : List DoorEntry) → length (door_steps before) ≡ place → IsTrue (each_after is_at_front before (steps_from others place door))
  exact_from before place [] long = (front_kept before (made_at_front place others) place long (of_front place)).0
  exact_from before place (entry ∷ entries) long =
      let these = made_at_front place others in
      let one : Made = record { by = entry.by; turn = AtDoor place entry.act } in
      let first = front_kept before these place long (of_front place) in
      let next : length (door_steps (before ++ these ++ one ∷ [])) ≡ suc place =
      ap length (flat_map-append (λ (m : Made). door_entry_in m.by m.turn) (before ++ these) (one ∷ [])) ∙ length-append (door_steps (before ++ these)) (record { by = entry.by; act = entry.act } ∷ []) ∙ (let now = first.1 in omega arith) in
      joined before these (one ∷ steps_from others (suc place) entries) first.0
      (and_from _ _ (or_left (is_door_step one) (eqb (length (door_steps (before ++ these))) (front_in one.turn)) refl) (exact_from (before ++ these ++ one ∷ []) (suc place) entries next))

pub exact : (trace : Trace) → HaveExactFronts trace
exact trace = exact_from (others_of trace) (all_others trace) [] 0 trace.door refl
