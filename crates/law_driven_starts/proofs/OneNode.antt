-- The turns of a line at one node, where it gives nothing up, are its entries there, in their order.
use Rattle.std.proofs.Common.{◌≡◌, ℕ, suc, ◌+◌, ◌≤◌, ◌<◌, Bool, true, false, List, [], ◌∷◌, ◌++◌, refl, ap, ◌∙◌, inl, inr, eqb, leb, arith, append-nil}
use Rattle.std.specs.Prelude.{IsTrue, filter, if◌then◌else◌}
use Rattle.std.proofs.lemmas.Bool.{and_from, and_parts, eqb-true, le-leb, leb-true, ne_eqb}
use Rattle.std.proofs.lemmas.List.Elements.{filter-append}
use Rattle.aft_model.specs.declared.caller.By.{By}
use Rattle.aft_model.specs.declared.door.DoorEntry.{DoorEntry}
use Rattle.aft_model.specs.declared.node.NodeEntry.{NodeEntry}
use Rattle.aft_model.specs.declared.office.OfficeEntry.{OfficeEntry}
use Rattle.aft_model.specs.declared.trace.Trace.{Trace}
use Rattle.aft_model.specs.ScanRun.{same_line}
use Rattle.aft_model.proofs.Histories.{In, in_append}
use Rattle.aft_model.proofs.Lists.{in_filter}
use Rattle.aft_lines.specs.Turns.{AtDoor, AtNode, AtOffice, Turn, door_turns, moment, node_turns, nodes_turns, office_turns, turns}
use Rattle.law_places.specs.Fronts.{never_fall, node_fronts}
use Rattle.law_turns.specs.Order.{give_nothing_up, is_at_node, moments_ascend}
use Rattle.law_turns.proofs.Lists.{filter_swap}
use Rattle.law_turns.proofs.Sorting.{alike, at_moment, sorted_ascends, sorted_stable}
use Rattle.law_steps.specs.OneList.{entries_of}
use Rattle.law_runs.proofs.Opening.{head_least, tail_ascends}
use Rattle.law_accounts.specs.Adding.{numbered_in}

-- ---- ascending

-- a turn that isn't later than any of some that ascend, in front of them
front_ascends : (turn : Turn) (line : List Turn) → ((x : Turn) → In x line → moment turn ≤ moment x) → IsTrue (moments_ascend line) → IsTrue (moments_ascend (turn ∷ line))
front_ascends turn [] least up = refl
front_ascends turn (next ∷ line) least up = and_from (leb (moment turn) (moment next)) (moments_ascend (next ∷ line)) (le-leb (moment turn) (moment next) (least next (inl refl))) up

part_ascends : (test : Turn → Bool) (line : List Turn) → IsTrue (moments_ascend line) → IsTrue (moments_ascend (filter test line))
part_ascends test [] up = refl
part_ascends test (turn ∷ line) up = cases (part_ascends test line (tail_ascends turn line up)) (test turn)
  where
    cases : IsTrue (moments_ascend (filter test line)) → (b : Bool) → IsTrue (moments_ascend (if b then turn ∷ filter test line else filter test line))
    cases rest true = front_ascends turn (filter test line) (λ x among. head_least turn line up x (in_filter test x line among).0) rest
    cases rest false = rest

-- the first of numbers that never fall is the least
first_least : (n : ℕ) (numbers : List ℕ) → IsTrue (never_fall (n ∷ numbers)) → (m : ℕ) → In m numbers → n ≤ m
first_least n [] up m none = absurd none
first_least n (k ∷ numbers) up m among = cases (first_least k numbers parts.1 m) among
  where
    parts : IsTrue (leb n k) × IsTrue (never_fall (k ∷ numbers))
    parts = and_parts (leb n k) (never_fall (k ∷ numbers)) up

    cases : (In m numbers → k ≤ m) → In m (k ∷ numbers) → n ≤ m
    cases rest (inl is) = (let le : n ≤ k = leb-true n k parts.0 in let same : m ≡ k = is in omega arith)
    cases rest (inr later) = (let le : n ≤ k = leb-true n k parts.0 in let more : k ≤ m = rest later in omega arith)

others_rise : (n : ℕ) (numbers : List ℕ) → IsTrue (never_fall (n ∷ numbers)) → IsTrue (never_fall numbers)
others_rise n [] up = refl
others_rise n (k ∷ numbers) up = (and_parts (leb n k) (never_fall (k ∷ numbers)) up).1

module _ (by : By) (number : ℕ) where
  -- a turn at a node has the front of an entry
  front_of : (before history : List NodeEntry) (x : Turn) → In x (node_turns by number before history) → (front : ℕ) × In front (node_fronts history) × (moment x ≡ front + front)
  front_of before [] x none = absurd none
  front_of before (entry ∷ history) x among = elim (in_append x (if same_line by entry.by then AtNode number before entry ∷ [] else []) (node_turns by number (before ++ entry ∷ []) history) among) [
    | inl here ↦ at_here (same_line by entry.by) here
    | inr later ↦ (let found = front_of (before ++ entry ∷ []) history x later in (found.0, inr found.1, found.2))
  ]
    where
      at_here : (b : Bool) → In x (if b then AtNode number before entry ∷ [] else []) → (front : ℕ) × In front (node_fronts (entry ∷ history)) × (moment x ≡ front + front)
      at_here true (inl is) = (entry.front, inl refl, ap moment is)
      at_here true (inr none) = absurd none
      at_here false none = absurd none

  there_ascends : (before history : List NodeEntry) → IsTrue (never_fall (node_fronts history)) → IsTrue (moments_ascend (node_turns by number before history))
  there_ascends before [] up = refl
  there_ascends before (entry ∷ history) up = cases (same_line by entry.by) (there_ascends (before ++ entry ∷ []) history (others_rise entry.front (node_fronts history) up))
    where
      behind : (x : Turn) → In x (node_turns by number (before ++ entry ∷ []) history) → entry.front + entry.front ≤ moment x
      behind x among =
          let found = front_of (before ++ entry ∷ []) history x among in
          let least : entry.front ≤ found.0 = first_least entry.front (node_fronts history) up found.0 found.1 in
          let same : moment x ≡ found.0 + found.0 = found.2 in
          omega arith

      cases : (b : Bool) → IsTrue (moments_ascend (node_turns by number (before ++ entry ∷ []) history)) → IsTrue (moments_ascend ((if b then AtNode number before entry ∷ [] else []) ++ node_turns by number (before ++ entry ∷ []) history))
      cases true rest = front_ascends (AtNode number before entry) (node_turns by number (before ++ entry ∷ []) history) behind rest
      cases false rest = rest

  -- ---- what stands at the node

  none_at_door : (place : ℕ) (door : List DoorEntry) → filter (is_at_node number) (door_turns by place door) ≡ []
  none_at_door place [] = refl
  none_at_door place (entry ∷ door) = cases (same_line by entry.by) (none_at_door (suc place) door)
    where
      cases : (b : Bool) → filter (is_at_node number) (door_turns by (suc place) door) ≡ [] → filter (is_at_node number) ((if b then AtDoor place entry.act ∷ [] else []) ++ door_turns by (suc place) door) ≡ []
      cases true rest = rest
      cases false rest = rest

  none_at_office : (before office : List OfficeEntry) → filter (is_at_node number) (office_turns by before office) ≡ []
  none_at_office before [] = refl
  none_at_office before (entry ∷ office) = cases (same_line by entry.by) (none_at_office (before ++ entry ∷ []) office)
    where
      cases : (b : Bool) → filter (is_at_node number) (office_turns by (before ++ entry ∷ []) office) ≡ [] → filter (is_at_node number) ((if b then AtOffice before entry ∷ [] else []) ++ office_turns by (before ++ entry ∷ []) office) ≡ []
      cases true rest = rest
      cases false rest = rest

  at_one : (node : ℕ) (there : Bool) → eqb node number ≡ there → (before history : List NodeEntry) → filter (is_at_node number) (node_turns by node before history) ≡ (if there then node_turns by node before history else [])
  at_one node true is before [] = refl
  at_one node false is before [] = refl
  at_one node there is before (entry ∷ history) = cases there is (same_line by entry.by) (at_one node there is (before ++ entry ∷ []) history)
    where
      cases : (there' : Bool) → eqb node number ≡ there' → (b : Bool) → filter (is_at_node number) (node_turns by node (before ++ entry ∷ []) history) ≡ (if there' then node_turns by node (before ++ entry ∷ []) history else [])
          → filter (is_at_node number) ((if b then AtNode node before entry ∷ [] else []) ++ node_turns by node (before ++ entry ∷ []) history) ≡ (if there' then (if b then AtNode node before entry ∷ [] else []) ++ node_turns by node (before ++ entry ∷ []) history else [])
      cases true is' true rest =
          ap (λ (t : Bool). if t then AtNode node before entry ∷ filter (is_at_node number) (node_turns by node (before ++ entry ∷ []) history) else filter (is_at_node number) (node_turns by node (before ++ entry ∷ []) history)) is'
          ∙ ap (λ (l : List Turn). AtNode node before entry ∷ l) rest
      cases false is' true rest =
          ap (λ (t : Bool). if t then AtNode node before entry ∷ filter (is_at_node number) (node_turns by node (before ++ entry ∷ []) history) else filter (is_at_node number) (node_turns by node (before ++ entry ∷ []) history)) is' ∙ rest
      cases true is' false rest = rest
      cases false is' false rest = rest

  none_numbered : (first : ℕ) (histories : List (List NodeEntry)) → number < first → numbered_in number first histories ≡ []
  none_numbered first [] below = refl
  none_numbered first (history ∷ histories) below =
      ap (λ (b : Bool). if b then history else numbered_in number (suc first) histories) (ne_eqb first number (λ same. omega arith)) ∙ none_numbered (suc first) histories (omega arith)

  in_nodes : (first : ℕ) (histories : List (List NodeEntry)) → filter (is_at_node number) (nodes_turns by first histories) ≡ node_turns by number [] (numbered_in number first histories)
  in_nodes first [] = refl
  in_nodes first (history ∷ histories) =
      filter-append (is_at_node number) (node_turns by first [] history) (nodes_turns by (suc first) histories)
      ∙ cases (eqb first number) refl (in_nodes (suc first) histories)
    where
      cases : (there : Bool) → eqb first number ≡ there → filter (is_at_node number) (nodes_turns by (suc first) histories) ≡ node_turns by number [] (numbered_in number (suc first) histories)
          → filter (is_at_node number) (node_turns by first [] history) ++ filter (is_at_node number) (nodes_turns by (suc first) histories) ≡ node_turns by number [] (if there then history else numbered_in number (suc first) histories)
      cases true is rest =
          let same : first ≡ number = eqb-true first number is in
          ap (λ (l : List Turn). l ++ filter (is_at_node number) (nodes_turns by (suc first) histories)) (at_one first true is [] history)
          ∙ (ap (λ (l : List Turn). node_turns by first [] history ++ l) (rest ∙ ap (node_turns by number []) (none_numbered (suc first) histories (omega arith)))
          ∙ (append-nil (node_turns by first [] history) ∙ ap (λ (n : ℕ). node_turns by n [] history) same))
      cases false is rest = ap (λ (l : List Turn). l ++ filter (is_at_node number) (nodes_turns by (suc first) histories)) (at_one first false is [] history) ∙ rest

  module _ (trace : Trace) where
    abbrev history : List NodeEntry
    history = numbered_in number 1 trace.nodes

    pub entries_there : filter (is_at_node number) (entries_of by trace) ≡ node_turns by number [] history
    entries_there =
        filter-append (is_at_node number) (nodes_turns by 1 trace.nodes ++ door_turns by 0 trace.door) (office_turns by [] trace.office)
        ∙ (ap (λ (l : List Turn). filter (is_at_node number) (nodes_turns by 1 trace.nodes ++ door_turns by 0 trace.door) ++ l) (none_at_office [] trace.office)
        ∙ (append-nil (filter (is_at_node number) (nodes_turns by 1 trace.nodes ++ door_turns by 0 trace.door))
        ∙ (filter-append (is_at_node number) (nodes_turns by 1 trace.nodes) (door_turns by 0 trace.door)
        ∙ (ap (λ (l : List Turn). filter (is_at_node number) (nodes_turns by 1 trace.nodes) ++ l) (none_at_door 0 trace.door)
        ∙ (append-nil (filter (is_at_node number) (nodes_turns by 1 trace.nodes)) ∙ in_nodes 1 trace.nodes)))))

    pub turns_there : IsTrue (give_nothing_up (entries_of by trace)) → IsTrue (never_fall (node_fronts history)) → filter (is_at_node number) (turns by trace) ≡ node_turns by number [] history
    turns_there quiet rise =
        alike (filter (is_at_node number) (turns by trace)) (node_turns by number [] history)
        (part_ascends (is_at_node number) (turns by trace) (sorted_ascends [] (entries_of by trace) refl)) (there_ascends [] history rise) (λ m. at_each m)
      where
        at_each : (m : ℕ) → at_moment m (filter (is_at_node number) (turns by trace)) ≡ at_moment m (node_turns by number [] history)
        at_each m =
            filter_swap (λ (turn : Turn). eqb (moment turn) m) (is_at_node number) (turns by trace)
            ∙ (ap (filter (is_at_node number)) (sorted_stable m [] (entries_of by trace) refl quiet)
            ∙ (filter_swap (is_at_node number) (λ (turn : Turn). eqb (moment turn) m) (entries_of by trace) ∙ ap (at_moment m) entries_there))
