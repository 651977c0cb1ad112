-- The steps of a line are its entries, list by list.
use Rattle.std.proofs.Common.{◌≡◌, ℕ, suc, ◌+◌, ◌≤◌, ◌<◌, Bool, true, false, List, [], ◌∷◌, ◌++◌, refl, sym, ap, subst, ◌∙◌, inl, inr, leb, arith, length, append-nil}
use Rattle.std.specs.Prelude.{IsTrue, IsFalse, filter, map, if◌then◌else◌}
use Rattle.std.specs.List.{list_all, list_any}
use Rattle.std.proofs.lemmas.Bool.{and_parts, and_from, eqb-true, eq-eqb, ne_eqb, leb-true, le-leb, false_from_ne_true, false≢true}
use Rattle.std.proofs.lemmas.List.{map-append}
use Rattle.std.proofs.lemmas.List.Elements.{filter-append}
use Rattle.aft_model.specs.declared.caller.By.{By}
use Rattle.aft_model.specs.declared.door.DoorEntry.{DoorEntry}
use Rattle.aft_model.specs.declared.node.NodeEntry.{NodeEntry}
use Rattle.aft_model.specs.declared.office.OfficeEntry.{OfficeEntry}
use Rattle.aft_model.specs.declared.trace.Trace.{Trace}
use Rattle.aft_model.specs.ScanRun.{same_line}
use Rattle.aft_model.proofs.Histories.{In, any_found}
use Rattle.aft_model.proofs.Lists.{filter_in}
use Rattle.aft_lines.specs.Steps.{Made, made_at_node, made_at_nodes, made_at_office, own_steps, steps}
use Rattle.aft_lines.specs.Turns.{AtDoor, AtNode, AtOffice, Turn, node_turns, office_turns}
use Rattle.law_places.specs.Fronts.{never_fall, node_fronts, office_fronts}
use Rattle.law_turns.specs.Order.{AtNodes, is_at_node, is_at_office, is_at_or_above}
use Rattle.law_turns.proofs.Lists.{filter_all, filter_none, filter_swap}
use Rattle.law_steps.specs.OneList.{fronts_rise, rise_to}
use Rattle.law_steps.proofs.Exact.{others_of}
use Rattle.law_steps.proofs.Fronts.{Rise, but_the_door, by_front, fronts_of, in_order}

-- a filter of what is made of elements
filter_map_swap : {A B : Type 0} (p : B → Bool) (f : A → B) (xs : List A) → filter p (map f xs) ≡ map f (filter (λ x. p (f x)) xs)
filter_map_swap p f [] = refl
filter_map_swap {A} {B} p f (x ∷ xs) = cases (p (f x)) (filter_map_swap p f xs)
  where
    cases : (t : Bool) → filter p (map f xs) ≡ map f (filter (λ y. p (f y)) xs) → (if t then f x ∷ filter p (map f xs) else filter p (map f xs)) ≡ map f (if t then x ∷ filter (λ y. p (f y)) xs else filter (λ y. p (f y)) xs)
    cases true rest = ap (λ (l : List B). f x ∷ l) rest
    cases false rest = rest

all_of : {A : Type 0} (x : A) (xs : List A) → In x xs → xs ≡ [] → ⊥
all_of x [] among none = among
all_of x (y ∷ ys) among none = cc

module _ (by : By) where
  abbrev pub mine : Made → Bool
  mine one = same_line by one.by

  pub own-append : (xs ys : List Made) → own_steps by (xs ++ ys) ≡ own_steps by xs ++ own_steps by ys
  own-append xs ys = ap (map (λ (one : Made). one.turn)) (filter-append mine xs ys) ∙ map-append (λ (one : Made). one.turn) (filter mine xs) (filter mine ys)

  -- the own steps that pass a test are those of the steps that pass it
  own_part : (test : Turn → Bool) (made : List Made) → filter test (own_steps by made) ≡ own_steps by (filter (λ one. test one.turn) made)
  own_part test made =
      filter_map_swap test (λ (one : Made). one.turn) (filter mine made)
      ∙ ap (map (λ (one : Made). one.turn)) (filter_swap (λ (one : Made). test one.turn) mine made)

  -- ---- the steps of one list

  node_own : (node : ℕ) (before history : List NodeEntry) → own_steps by (made_at_node node before history) ≡ node_turns by node before history
  node_own node before [] = refl
  node_own node before (entry ∷ entries) = cases (same_line by entry.by) (node_own node (before ++ entry ∷ []) entries)
    where
      one : Made
      one = record { by = entry.by; turn = AtNode node before entry }

      cases : (t : Bool) → own_steps by (made_at_node node (before ++ entry ∷ []) entries) ≡ node_turns by node (before ++ entry ∷ []) entries
          → map (λ (m : Made). m.turn) (if t then one ∷ filter mine (made_at_node node (before ++ entry ∷ []) entries) else filter mine (made_at_node node (before ++ entry ∷ []) entries))
          ≡ (if t then AtNode node before entry ∷ [] else []) ++ node_turns by node (before ++ entry ∷ []) entries
      cases true rest = ap (λ (l : List Turn). AtNode node before entry ∷ l) rest
      cases false rest = rest

  office_own : (before office : List OfficeEntry) → own_steps by (made_at_office before office) ≡ office_turns by before office
  office_own before [] = refl
  office_own before (entry ∷ entries) = cases (same_line by entry.by) (office_own (before ++ entry ∷ []) entries)
    where
      one : Made
      one = record { by = entry.by; turn = AtOffice before entry }

      cases : (t : Bool) → own_steps by (made_at_office (before ++ entry ∷ []) entries) ≡ office_turns by (before ++ entry ∷ []) entries
          → map (λ (m : Made). m.turn) (if t then one ∷ filter mine (made_at_office (before ++ entry ∷ []) entries) else filter mine (made_at_office (before ++ entry ∷ []) entries))
          ≡ (if t then AtOffice before entry ∷ [] else []) ++ office_turns by (before ++ entry ∷ []) entries
      cases true rest = ap (λ (l : List Turn). AtOffice before entry ∷ l) rest
      cases false rest = rest

-- ---- which steps stand at which list

pub at_node : (node : ℕ) (before history : List NodeEntry) (one : Made) → In one (made_at_node node before history) → is_at_node node one.turn ≡ true
at_node node before [] one among = absurd among
at_node node before (entry ∷ entries) one (inl is) = ap (λ (m : Made). is_at_node node m.turn) is ∙ eq-eqb node node refl
at_node node before (entry ∷ entries) one (inr later) = at_node node (before ++ entry ∷ []) entries one later

pub not_at_other : (node other : ℕ) (turn : Turn) → ((node ≡ other) → ⊥) → is_at_node node turn ≡ true → is_at_node other turn ≡ false
not_at_other node other (AtDoor place act) differ is = refl
not_at_other node other (AtNode number before entry) differ is = ne_eqb number other (λ same. differ (sym (eqb-true number node is) ∙ same))
not_at_other node other (AtOffice before entry) differ is = refl

node_is_no_office : (node : ℕ) (turn : Turn) → is_at_node node turn ≡ true → is_at_office turn ≡ false
node_is_no_office node (AtDoor place act) is = refl
node_is_no_office node (AtNode number before entry) is = refl
node_is_no_office node (AtOffice before entry) is = absurd (false≢true is)

pub at_office : (before office : List OfficeEntry) (one : Made) → In one (made_at_office before office) → is_at_office one.turn ≡ true
at_office before [] one among = absurd among
at_office before (entry ∷ entries) one (inl is) = ap (λ (m : Made). is_at_office m.turn) is
at_office before (entry ∷ entries) one (inr later) = at_office (before ++ entry ∷ []) entries one later

pub office_is_no_node : (node : ℕ) (turn : Turn) → is_at_office turn ≡ true → is_at_node node turn ≡ false
office_is_no_node node (AtDoor place act) is = refl
office_is_no_node node (AtNode number before entry) is = absurd (false≢true is)
office_is_no_node node (AtOffice before entry) is = refl

-- the steps at a node that is none of some
other_nodes : (number node : ℕ) (histories : List (List NodeEntry)) → number < node → filter (λ (one : Made). is_at_node number one.turn) (made_at_nodes node histories) ≡ []
other_nodes number node [] below = refl
other_nodes number node (history ∷ histories) below =
    filter-append (λ (one : Made). is_at_node number one.turn) (made_at_node node [] history) (made_at_nodes (suc node) histories)
    ∙ ap (λ (l : List Made). l ++ filter (λ (one : Made). is_at_node number one.turn) (made_at_nodes (suc node) histories))
    (filter_none (λ (one : Made). is_at_node number one.turn) (made_at_node node [] history) (λ one among. not_at_other node number one.turn (λ same. omega arith) (at_node node [] history one among)))
    ∙ other_nodes number (suc node) histories (omega arith)

no_office : (node : ℕ) (histories : List (List NodeEntry)) → filter (λ (one : Made). is_at_office one.turn) (made_at_nodes node histories) ≡ []
no_office node [] = refl
no_office node (history ∷ histories) =
    filter-append (λ (one : Made). is_at_office one.turn) (made_at_node node [] history) (made_at_nodes (suc node) histories)
    ∙ ap (λ (l : List Made). l ++ filter (λ (one : Made). is_at_office one.turn) (made_at_nodes (suc node) histories))
    (filter_none (λ (one : Made). is_at_office one.turn) (made_at_node node [] history) (λ one among. node_is_no_office node one.turn (at_node node [] history one among)))
    ∙ no_office (suc node) histories

pub node_fronts_of : (node : ℕ) (before history : List NodeEntry) → fronts_of (made_at_node node before history) ≡ node_fronts history
node_fronts_of node before [] = refl
node_fronts_of node before (entry ∷ entries) = ap (λ (l : List ℕ). entry.front ∷ l) (node_fronts_of node (before ++ entry ∷ []) entries)

office_fronts_of : (before office : List OfficeEntry) → fronts_of (made_at_office before office) ≡ office_fronts office
office_fronts_of before [] = refl
office_fronts_of before (entry ∷ entries) = ap (λ (l : List ℕ). entry.front ∷ l) (office_fronts_of (before ++ entry ∷ []) entries)

all_from_zero : (numbers : List ℕ) → IsTrue (list_all (λ n. leb 0 n) numbers)
all_from_zero [] = refl
all_from_zero (n ∷ numbers) = and_from _ _ (le-leb 0 n (omega arith)) (all_from_zero numbers)

pub rises : (last : ℕ) (made : List Made) (numbers : List ℕ) → fronts_of made ≡ numbers → IsTrue (rise_to last numbers) → Rise 0 (0 + last) made
rises last made numbers is rise =
    let parts = and_parts (never_fall numbers) (list_all (λ n. leb n last) numbers) rise in
    let same : last ≡ 0 + last = omega arith in
    record {
      up = subst (λ (l : List ℕ). IsTrue (never_fall l)) (sym is) parts.0;
      from = all_from_zero (fronts_of made);
      to = subst (λ n. IsTrue (list_all (λ k. leb k n) (fronts_of made))) same (subst (λ (l : List ℕ). IsTrue (list_all (λ k. leb k last) l)) (sym is) parts.1);
    }

-- ---- the entries of a line

module _ (by : By) (trace : Trace) (rise : IsTrue (fronts_rise trace)) where
  abbrev pub line : List Turn
  line = own_steps by (steps trace)

  -- the own steps at one list, of which no step is at the door
  part_of : (test : Turn → Bool) (made : List Made) → ((place : ℕ) (entry : DoorEntry) → test (AtDoor place entry.act) ≡ false) → filter (λ (one : Made). test one.turn) (others_of trace) ≡ made → Rise 0 (0 + length trace.door) made
      → filter test line ≡ own_steps by made
  part_of test made none is rise' =
      own_part by test (steps trace)
      ∙ ap (own_steps by) (but_the_door (λ (one : Made). test one.turn) (others_of trace) 0 trace.door (λ one p entry e. ap (λ (m : Made). test m.turn) e ∙ none p entry) ∙ ap (λ (l : List Made). by_front l 0 trace.door) is ∙ in_order made 0 trace.door rise')

  others_node : (number : ℕ) → filter (λ (one : Made). is_at_node number one.turn) (others_of trace) ≡ filter (λ (one : Made). is_at_node number one.turn) (made_at_nodes 1 trace.nodes)
  others_node number =
      filter-append (λ (one : Made). is_at_node number one.turn) (made_at_nodes 1 trace.nodes) (made_at_office [] trace.office)
      ∙ ap (λ (l : List Made). filter (λ (one : Made). is_at_node number one.turn) (made_at_nodes 1 trace.nodes) ++ l)
      (filter_none (λ (one : Made). is_at_node number one.turn) (made_at_office [] trace.office) (λ one among. office_is_no_node number one.turn (at_office [] trace.office one among)))
      ∙ append-nil (filter (λ (one : Made). is_at_node number one.turn) (made_at_nodes 1 trace.nodes))

  others_office : filter (λ (one : Made). is_at_office one.turn) (others_of trace) ≡ made_at_office [] trace.office
  others_office =
      filter-append (λ (one : Made). is_at_office one.turn) (made_at_nodes 1 trace.nodes) (made_at_office [] trace.office)
      ∙ ap (λ (l : List Made). l ++ filter (λ (one : Made). is_at_office one.turn) (made_at_office [] trace.office)) (no_office 1 trace.nodes)
      ∙ filter_all (λ (one : Made). is_at_office one.turn) (made_at_office [] trace.office) (at_office [] trace.office)

  pub office_part : filter is_at_office line ≡ office_turns by [] trace.office
  office_part =
      let parts = and_parts (list_all (λ (history : List NodeEntry). rise_to (length trace.door) (node_fronts history)) trace.nodes) (rise_to (length trace.door) (office_fronts trace.office)) rise in
      part_of is_at_office (made_at_office [] trace.office) (λ place entry. refl) others_office (rises (length trace.door) (made_at_office [] trace.office) (office_fronts trace.office) (office_fronts_of [] trace.office) parts.1)
      ∙ office_own by [] trace.office

  -- the steps at the nodes from one on
  nodes_from : (node : ℕ) (histories : List (List NodeEntry)) → IsTrue (list_all (λ (history : List NodeEntry). rise_to (length trace.door) (node_fronts history)) histories)
      → ((number : ℕ) → node ≤ number → filter (λ (one : Made). is_at_node number one.turn) (others_of trace) ≡ filter (λ (one : Made). is_at_node number one.turn) (made_at_nodes node histories))
      → AtNodes by node histories line
  nodes_from node [] all same = false_from_ne_true _ (λ some.
      let found = any_found (is_at_or_above node) line some in
      above found.0 found.1 found.2)
    where
      above : (turn : Turn) → In turn line → IsTrue (is_at_or_above node turn) → ⊥
      above (AtDoor place act) among is = false≢true is
      above (AtOffice before entry) among is = false≢true is
      above (AtNode number before entry) among is =
          let le = leb-true node number is in
          let gone : filter (is_at_node number) line ≡ [] = part_of (is_at_node number) [] (λ place entry'. refl) (same number le) (record { up = refl; from = refl; to = refl }) in
          all_of (AtNode number before entry) (filter (is_at_node number) line) (filter_in (is_at_node number) (AtNode number before entry) line among (eq-eqb number number refl)) gone
  nodes_from node (history ∷ histories) all same =
      let parts = and_parts (rise_to (length trace.door) (node_fronts history)) _ all in (
        part_of (is_at_node node) (made_at_node node [] history) (λ place entry. refl) (same node (omega arith) ∙ here)
            (rises (length trace.door) (made_at_node node [] history) (node_fronts history) (node_fronts_of node [] history) parts.0)
            ∙ node_own by node [] history,
        nodes_from (suc node) histories parts.1 (λ number above. same number (omega arith) ∙ elsewhere number above),
      )
    where
      here : filter (λ (one : Made). is_at_node node one.turn) (made_at_nodes node (history ∷ histories)) ≡ made_at_node node [] history
      here =
          filter-append (λ (one : Made). is_at_node node one.turn) (made_at_node node [] history) (made_at_nodes (suc node) histories)
          ∙ ap (λ (l : List Made). l ++ filter (λ (one : Made). is_at_node node one.turn) (made_at_nodes (suc node) histories)) (filter_all (λ (one : Made). is_at_node node one.turn) (made_at_node node [] history) (at_node node [] history))
          ∙ ap (λ (l : List Made). made_at_node node [] history ++ l) (other_nodes node (suc node) histories (omega arith)) ∙ append-nil (made_at_node node [] history)

      elsewhere : (number : ℕ) → suc node ≤ number → filter (λ (one : Made). is_at_node number one.turn) (made_at_nodes node (history ∷ histories)) ≡ filter (λ (one : Made). is_at_node number one.turn) (made_at_nodes (suc node) histories)
      elsewhere number above =
          filter-append (λ (one : Made). is_at_node number one.turn) (made_at_node node [] history) (made_at_nodes (suc node) histories)
          ∙ ap (λ (l : List Made). l ++ filter (λ (one : Made). is_at_node number one.turn) (made_at_nodes (suc node) histories))
          (filter_none (λ (one : Made). is_at_node number one.turn) (made_at_node node [] history) (λ one among. not_at_other node number one.turn (λ same'. omega arith) (at_node node [] history one among)))

  pub nodes_part : AtNodes by 1 trace.nodes line
  nodes_part =
      let parts = and_parts (list_all (λ (history : List NodeEntry). rise_to (length trace.door) (node_fronts history)) trace.nodes) (rise_to (length trace.door) (office_fronts trace.office)) rise in
      nodes_from 1 trace.nodes parts.0 (λ number above. others_node number)

  pub no_node_part : IsFalse (list_any (is_at_node 0) line)
  no_node_part = false_from_ne_true _ (λ some.
      let found = any_found (is_at_node 0) line some in
      let gone : filter (is_at_node 0) line ≡ [] = part_of (is_at_node 0) [] (λ place entry. refl) (others_node 0 ∙ other_nodes 0 1 trace.nodes (omega arith)) (record { up = refl; from = refl; to = refl }) in
      all_of found.0 (filter (is_at_node 0) line) (filter_in (is_at_node 0) found.0 line found.1 found.2) gone)
