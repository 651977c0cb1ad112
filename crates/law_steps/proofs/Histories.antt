-- The steps at the door are its history, and those at a node are the node's.
use Rattle.std.proofs.Common.{◌≡◌, ℕ, suc, ◌<◌, Bool, true, false, List, [], ◌∷◌, ◌++◌, length, refl, sym, ap, subst, ◌∙◌, ◌⊎◌, inl, inr, eqb, arith, append-nil}
use Rattle.std.specs.Prelude.{IsTrue, filter, if◌then◌else◌}
use Rattle.std.specs.List.{flat_map, list_all}
use Rattle.std.proofs.lemmas.Bool.{and_parts, cases_Bool, eq-eqb, eqb-true, ne_eqb}
use Rattle.std.proofs.lemmas.List.Concat.{flat_map-append}
use Rattle.std.proofs.lemmas.List.Elements.{filter-append}
use Rattle.aft_model.specs.declared.door.DoorEntry.{DoorEntry}
use Rattle.aft_model.specs.declared.node.NodeEntry.{NodeEntry}
use Rattle.aft_model.specs.declared.trace.Trace.{Trace}
use Rattle.aft_model.proofs.Histories.{In}
use Rattle.aft_model.proofs.Lists.{in_filter}
use Rattle.aft_lines.specs.LineView.{door_entry_in}
use Rattle.aft_lines.specs.Steps.{Made, door_steps, made_at_front, made_at_node, made_at_nodes, made_at_office, steps, steps_from}
use Rattle.aft_lines.specs.Turns.{AtDoor, front_in}
use Rattle.law_places.specs.Fronts.{node_fronts, office_fronts}
use Rattle.law_turns.specs.Order.{is_at_node}
use Rattle.law_turns.proofs.Lists.{filter_all, filter_none}
use Rattle.law_steps.specs.Histories.{history_in}
use Rattle.law_steps.specs.OneList.{fronts_rise, rise_to}
use Rattle.law_steps.proofs.Exact.{AreOthers, all_others, others_of}
use Rattle.law_steps.proofs.Fronts.{but_the_door, by_front, in_order}
use Rattle.law_steps.proofs.Parts.{at_node, at_office, node_fronts_of, not_at_other, office_is_no_node, rises}

-- ---- the door

none_made : {A B : Type 0} (f : A → List B) (xs : List A) → ((x : A) → In x xs → f x ≡ []) → flat_map f xs ≡ []
none_made f [] none = refl
none_made {A} {B} f (x ∷ xs) none = ap (λ (l : List B). l ++ flat_map f xs) (none x (inl refl)) ∙ none_made f xs (λ y among. none y (inr among))

module _ (others : List Made) (are : AreOthers others) where
  none_at : (place : ℕ) → door_steps (made_at_front place others) ≡ []
  none_at place = none_made (λ (m : Made). door_entry_in m.by m.turn) (made_at_front place others) (λ one among. are one (in_filter (λ (m : Made). eqb (front_in m.turn) place) one others among).0)

  door_from : (place : ℕ) (door : List DoorEntry) → door_steps (steps_from others place door) ≡ door
  door_from place [] = none_at place
  door_from place (entry ∷ entries) =
      flat_map-append (λ (m : Made). door_entry_in m.by m.turn) (made_at_front place others) (record { by = entry.by; turn = AtDoor place entry.act } ∷ steps_from others (suc place) entries)
      ∙ (ap (λ (l : List DoorEntry). l ++ entry ∷ door_steps (steps_from others (suc place) entries)) (none_at place) ∙ ap (λ (l : List DoorEntry). entry ∷ l) (door_from (suc place) entries))

pub door_is : (trace : Trace) → door_steps (steps trace) ≡ trace.door
door_is trace = door_from (others_of trace) (all_others trace) 0 trace.door

-- ---- the nodes

none_below : (number node : ℕ) (histories : List (List NodeEntry)) → number < node → history_in number node histories ≡ []
none_below number node [] below = refl
none_below number node (history ∷ histories) below =
    ap (λ (b : Bool). if b then history else history_in number (suc node) histories) (ne_eqb number node (λ same. omega arith)) ∙ none_below number (suc node) histories (omega arith)

of_nodes : (number node : ℕ) (histories : List (List NodeEntry)) → filter (λ (one : Made). is_at_node number one.turn) (made_at_nodes node histories) ≡ made_at_node number [] (history_in number node histories)
of_nodes number node [] = refl
of_nodes number node (history ∷ histories) =
    filter-append (λ (one : Made). is_at_node number one.turn) (made_at_node node [] history) (made_at_nodes (suc node) histories)
    ∙ (ap (λ (l : List Made). filter (λ (one : Made). is_at_node number one.turn) (made_at_node node [] history) ++ l) (of_nodes number (suc node) histories) ∙ cases (cases_Bool (eqb number node)))
  where
    cases : (eqb number node ≡ true) ⊎ (eqb number node ≡ false)
        → filter (λ (one : Made). is_at_node number one.turn) (made_at_node node [] history) ++ made_at_node number [] (history_in number (suc node) histories) ≡ made_at_node number [] (if eqb number node then history else history_in number (suc node) histories)
    cases (inl same) =
        let is = eqb-true number node same in
        ap (λ (l : List Made). l ++ made_at_node number [] (history_in number (suc node) histories)) (subst (λ (n : ℕ). filter (λ (one : Made). is_at_node number one.turn) (made_at_node n [] history) ≡ made_at_node n [] history) is (filter_all (λ (one : Made). is_at_node number one.turn) (made_at_node number [] history) (at_node number [] history)))
        ∙ (ap (λ (h : List NodeEntry). made_at_node node [] history ++ made_at_node number [] h) (none_below number (suc node) histories (omega arith))
        ∙ (append-nil (made_at_node node [] history) ∙ (ap (λ (n : ℕ). made_at_node n [] history) (sym is) ∙ ap (λ (b : Bool). made_at_node number [] (if b then history else history_in number (suc node) histories)) (sym same))))
    cases (inr other) =
        ap (λ (l : List Made). l ++ made_at_node number [] (history_in number (suc node) histories))
        (filter_none (λ (one : Made). is_at_node number one.turn) (made_at_node node [] history) (λ one among. not_at_other node number one.turn (λ is. true_false (sym (eq-eqb number node (sym is)) ∙ other)) (at_node node [] history one among)))
        ∙ ap (λ (b : Bool). made_at_node number [] (if b then history else history_in number (suc node) histories)) (sym other)
      where
        true_false : true ≡ false → ⊥
        true_false x = (cc)

rise_in : (last number node : ℕ) (histories : List (List NodeEntry)) → IsTrue (list_all (λ (history : List NodeEntry). rise_to last (node_fronts history)) histories) → IsTrue (rise_to last (node_fronts (history_in number node histories)))
rise_in last number node [] rise = refl
rise_in last number node (history ∷ histories) rise = cases (rise_in last number (suc node) histories parts.1) (eqb number node)
  where
    parts : IsTrue (rise_to last (node_fronts history)) × IsTrue (list_all (λ (h : List NodeEntry). rise_to last (node_fronts h)) histories)
    parts = and_parts (rise_to last (node_fronts history)) (list_all (λ (h : List NodeEntry). rise_to last (node_fronts h)) histories) rise

    cases : IsTrue (rise_to last (node_fronts (history_in number (suc node) histories))) → (b : Bool) → IsTrue (rise_to last (node_fronts (if b then history else history_in number (suc node) histories)))
    cases rest true = parts.0
    cases rest false = rest

pub node_is : (number : ℕ) (trace : Trace) → IsTrue (fronts_rise trace) → filter (λ (one : Made). is_at_node number one.turn) (steps trace) ≡ made_at_node number [] (history_in number 1 trace.nodes)
node_is number trace rise =
    but_the_door (λ (one : Made). is_at_node number one.turn) (others_of trace) 0 trace.door (λ one p entry e. ap (λ (m : Made). is_at_node number m.turn) e)
    ∙ (ap (λ (l : List Made). by_front l 0 trace.door) (others ∙ of_nodes number 1 trace.nodes)
    ∙ in_order (made_at_node number [] (history_in number 1 trace.nodes)) 0 trace.door
    (rises (length trace.door) (made_at_node number [] (history_in number 1 trace.nodes)) (node_fronts (history_in number 1 trace.nodes)) (node_fronts_of number [] (history_in number 1 trace.nodes)) (rise_in (length trace.door) number 1 trace.nodes rise_nodes)))
  where
    rise_nodes : IsTrue (list_all (λ (history : List NodeEntry). rise_to (length trace.door) (node_fronts history)) trace.nodes)
    rise_nodes = (and_parts (list_all (λ (history : List NodeEntry). rise_to (length trace.door) (node_fronts history)) trace.nodes) (rise_to (length trace.door) (office_fronts trace.office)) rise).0

    others : filter (λ (one : Made). is_at_node number one.turn) (others_of trace) ≡ filter (λ (one : Made). is_at_node number one.turn) (made_at_nodes 1 trace.nodes)
    others =
        filter-append (λ (one : Made). is_at_node number one.turn) (made_at_nodes 1 trace.nodes) (made_at_office [] trace.office)
        ∙ (ap (λ (l : List Made). filter (λ (one : Made). is_at_node number one.turn) (made_at_nodes 1 trace.nodes) ++ l)
        (filter_none (λ (one : Made). is_at_node number one.turn) (made_at_office [] trace.office) (λ one among. office_is_no_node number one.turn (at_office [] trace.office one among)))
        ∙ append-nil (filter (λ (one : Made). is_at_node number one.turn) (made_at_nodes 1 trace.nodes)))
