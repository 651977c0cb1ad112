-- The lists of a line's entries have, at each moment, what the line has.
use Rattle.std.proofs.Common.{◌≡◌, ℕ, zero, suc, ◌≤◌, Bool, true, false, ◌||◌, not, List, [], ◌∷◌, ◌++◌, refl, sym, ap, subst, ◌∙◌, inl, inr, eqb, leb, arith, append-nil}
use Rattle.std.specs.Prelude.{IsTrue, filter, is_none, if◌then◌else◌}
use Rattle.std.specs.List.{fold, list_all}
use Rattle.std.proofs.lemmas.Bool.{and_parts, and_from, cases_Bool, eqb-true, eq-eqb, eqb-false, ne_eqb, le-leb, or_cases, not-true, true≢false, false≢true}
use Rattle.std.proofs.lemmas.List.Elements.{filter-append}
use Rattle.aft_model.specs.declared.caller.By.{By}
use Rattle.aft_model.specs.declared.node.NodeEntry.{NodeEntry}
use Rattle.aft_model.specs.declared.trace.Trace.{Trace}
use Rattle.aft_model.proofs.Histories.{In, all_at}
use Rattle.aft_model.proofs.Lists.{all_from, in_filter, none_at}
use Rattle.aft_lines.specs.Turns.{AtDoor, AtNode, AtOffice, Turn, door_turns, given_in, moment, node_turns, nodes_turns, office_turns, turns, with_turn}
use Rattle.law_turns.specs.Order.{AreEntries, AtNodes, give_nothing_up, is_at_door, is_at_node, is_at_office, is_at_or_above, moments_ascend, same_list, tie_in_one_list}
use Rattle.law_turns.proofs.Sorting.{alike, at_moment, sorted_ascends, sorted_stable}

-- ---- filters

pub filter_swap : {A : Type 0} (p q : A → Bool) (xs : List A) → filter p (filter q xs) ≡ filter q (filter p xs)
filter_swap p q [] = refl
filter_swap {A} p q (x ∷ xs) = cases (filter_swap p q xs) (p x) refl (q x) refl
  where
    cases : filter p (filter q xs) ≡ filter q (filter p xs) → (b : Bool) → p x ≡ b → (c : Bool) → q x ≡ c
        → filter p (if c then x ∷ filter q xs else filter q xs) ≡ filter q (if b then x ∷ filter p xs else filter p xs)
    cases rest true px true qx = ap (λ t. if t then x ∷ filter p (filter q xs) else filter p (filter q xs)) px ∙ ap (λ (l : List A). x ∷ l) rest ∙ sym (ap (λ t. if t then x ∷ filter q (filter p xs) else filter q (filter p xs)) qx)
    cases rest true px false qx = rest ∙ sym (ap (λ t. if t then x ∷ filter q (filter p xs) else filter q (filter p xs)) qx)
    cases rest false px true qx = ap (λ t. if t then x ∷ filter p (filter q xs) else filter p (filter q xs)) px ∙ rest
    cases rest false px false qx = rest

pub filter_all : {A : Type 0} (p : A → Bool) (xs : List A) → ((x : A) → In x xs → p x ≡ true) → filter p xs ≡ xs
filter_all p [] all = refl
filter_all {A} p (x ∷ xs) all = ap (λ t. if t then x ∷ filter p xs else filter p xs) (all x (inl refl)) ∙ ap (λ (l : List A). x ∷ l) (filter_all p xs (λ y among. all y (inr among)))

pub filter_none : {A : Type 0} (p : A → Bool) (xs : List A) → ((x : A) → In x xs → p x ≡ false) → filter p xs ≡ []
filter_none p [] none = refl
filter_none p (x ∷ xs) none = ap (λ t. if t then x ∷ filter p xs else filter p xs) (none x (inl refl)) ∙ filter_none p xs (λ y among. none y (inr among))

pub all_filter : {A : Type 0} (p q : A → Bool) (xs : List A) → IsTrue (list_all p xs) → IsTrue (list_all p (filter q xs))
all_filter p q xs all = all_from p (filter q xs) (λ x among. all_at p x xs (in_filter q x xs among).0 all)

pub all_append : {A : Type 0} (p : A → Bool) (xs ys : List A) → IsTrue (list_all p xs) → IsTrue (list_all p ys) → IsTrue (list_all p (xs ++ ys))
all_append p [] ys all all' = all'
all_append p (x ∷ xs) ys all all' = let parts = and_parts (p x) (list_all p xs) all in and_from _ _ parts.0 (all_append p xs ys parts.1 all')

-- ---- turns of different lists

door_elsewhere : (node : ℕ) (turn : Turn) → is_at_door turn ≡ true → is_at_node node turn ≡ false
door_elsewhere node (AtDoor place act) is = refl
door_elsewhere node (AtNode number before entry) is = absurd (false≢true is)
door_elsewhere node (AtOffice before entry) is = refl

door_no_office : (turn : Turn) → is_at_door turn ≡ true → is_at_office turn ≡ false
door_no_office (AtDoor place act) is = refl
door_no_office (AtNode number before entry) is = refl
door_no_office (AtOffice before entry) is = absurd (false≢true is)

office_elsewhere : (node : ℕ) (turn : Turn) → is_at_office turn ≡ true → is_at_node node turn ≡ false
office_elsewhere node (AtDoor place act) is = refl
office_elsewhere node (AtNode number before entry) is = absurd (false≢true is)
office_elsewhere node (AtOffice before entry) is = refl

office_no_door : (turn : Turn) → is_at_office turn ≡ true → is_at_door turn ≡ false
office_no_door (AtDoor place act) is = absurd (false≢true is)
office_no_door (AtNode number before entry) is = refl
office_no_door (AtOffice before entry) is = refl

node_no_door : (node : ℕ) (turn : Turn) → is_at_node node turn ≡ true → is_at_door turn ≡ false
node_no_door node (AtDoor place act) is = absurd (false≢true is)
node_no_door node (AtNode number before entry) is = refl
node_no_door node (AtOffice before entry) is = refl

node_no_office : (node : ℕ) (turn : Turn) → is_at_node node turn ≡ true → is_at_office turn ≡ false
node_no_office node (AtDoor place act) is = refl
node_no_office node (AtNode number before entry) is = refl
node_no_office node (AtOffice before entry) is = absurd (false≢true is)

node_elsewhere : (node other : ℕ) (turn : Turn) → ((node ≡ other) → ⊥) → is_at_node node turn ≡ true → is_at_node other turn ≡ false
node_elsewhere node other (AtDoor place act) differ is = refl
node_elsewhere node other (AtNode number before entry) differ is = ne_eqb number other (λ same. differ (sym (eqb-true number node is) ∙ same))
node_elsewhere node other (AtOffice before entry) differ is = refl

node_above : (node number : ℕ) (turn : Turn) → node ≤ number → is_at_node number turn ≡ true → is_at_or_above node turn ≡ true
node_above node number (AtDoor place act) le is = absurd (false≢true is)
node_above node number (AtNode its before entry) le is = (let same = eqb-true its number is in le-leb node its (omega arith))
node_above node number (AtOffice before entry) le is = absurd (false≢true is)

-- ---- the lists at one moment

module _ (by : By) (line : List Turn) (m : ℕ) where
  abbrev now : List Turn
  now = at_moment m line

  -- what a list has at the moment, that has those of the turns which pass a test
  part_now : (test : Turn → Bool) (part : List Turn) → filter test line ≡ part → at_moment m part ≡ filter test now
  part_now test part is = ap (at_moment m) (sym is) ∙ filter_swap (λ turn. eqb (moment turn) m) test line

  none_at_nodes : (node : ℕ) (histories : List (List NodeEntry)) → AtNodes by node histories line → ((number : ℕ) → node ≤ number → filter (is_at_node number) now ≡ []) → at_moment m (nodes_turns by node histories) ≡ []
  none_at_nodes node [] of none = refl
  none_at_nodes node (history ∷ histories) of none =
      filter-append (λ (turn : Turn). eqb (moment turn) m) (node_turns by node [] history) (nodes_turns by (suc node) histories)
      ∙ ap (λ (l : List Turn). l ++ at_moment m (nodes_turns by (suc node) histories)) (part_now (is_at_node node) (node_turns by node [] history) of.0 ∙ none node (omega arith))
      ∙ none_at_nodes (suc node) histories of.1 (λ number le. none number (omega arith))

  one_node : (node number : ℕ) (histories : List (List NodeEntry)) (turn : Turn) → AtNodes by node histories line → In turn line → is_at_node number turn ≡ true → node ≤ number
      → filter (is_at_node number) now ≡ now → ((other : ℕ) → ((number ≡ other) → ⊥) → filter (is_at_node other) now ≡ []) → at_moment m (nodes_turns by node histories) ≡ now
  one_node node number [] turn of among is le all none =
      absurd (none_at (is_at_or_above node) turn line among of (node_above node number turn le is))
  one_node node number (history ∷ histories) turn of among is le all none =
      filter-append (λ (t : Turn). eqb (moment t) m) (node_turns by node [] history) (nodes_turns by (suc node) histories)
      ∙ cases (eqb number node) refl (one_node (suc node) number histories turn of.1 among is)
    where
      first : at_moment m (node_turns by node [] history) ≡ filter (is_at_node node) now
      first = part_now (is_at_node node) (node_turns by node [] history) of.0

      cases : (t : Bool) → eqb number node ≡ t
          → (suc node ≤ number → filter (is_at_node number) now ≡ now → ((other : ℕ) → ((number ≡ other) → ⊥) → filter (is_at_node other) now ≡ []) → at_moment m (nodes_turns by (suc node) histories) ≡ now)
          → at_moment m (node_turns by node [] history) ++ at_moment m (nodes_turns by (suc node) histories) ≡ now
      cases true this rest =
          (let same : number ≡ node = eqb-true number node this in
          let front : at_moment m (node_turns by node [] history) ≡ now = first ∙ subst (λ n. filter (is_at_node n) now ≡ now) same all in
          let back : at_moment m (nodes_turns by (suc node) histories) ≡ [] = none_at_nodes (suc node) histories of.1 (λ other above. none other (λ it. omega arith)) in
          ap (λ (l : List Turn). l ++ at_moment m (nodes_turns by (suc node) histories)) front ∙ ap (λ (l : List Turn). now ++ l) back ∙ append-nil now)
      cases false not_this rest =
          (let differ : (number ≡ node) → ⊥ = eqb-false number node not_this in
          let front : at_moment m (node_turns by node [] history) ≡ [] = first ∙ none node differ in
          ap (λ (l : List Turn). l ++ at_moment m (nodes_turns by (suc node) histories)) front ∙ rest (above node number le differ) all none)
        where
          above : (a b : ℕ) → a ≤ b → ((b ≡ a) → ⊥) → suc a ≤ b
          above a b le differ = elim (cases_Bool (leb (suc a) b)) [
            | inl yes' ↦ leb-true' (suc a) b yes'
            | inr not_so ↦ absurd (differ (grind arith))
          ]
            where
              leb-true' : (x y : ℕ) → leb x y ≡ true → x ≤ y
              leb-true' x y t = grind arith

-- ---- all together

module _ (by : By) (trace : Trace) (line : List Turn) (entries : AreEntries by trace line) (ties : IsTrue (tie_in_one_list line)) where
  abbrev lists : List Turn
  lists = nodes_turns by 1 trace.nodes ++ door_turns by 0 trace.door ++ office_turns by [] trace.office

  module _ (m : ℕ) where
    abbrev these : List Turn
    these = at_moment m line

    joined : (n d o : List Turn) → at_moment m (nodes_turns by 1 trace.nodes) ≡ n → filter is_at_door these ≡ d → filter is_at_office these ≡ o → at_moment m lists ≡ n ++ d ++ o
    joined n d o nodes doors offices =
        filter-append (λ (turn : Turn). eqb (moment turn) m) (nodes_turns by 1 trace.nodes ++ door_turns by 0 trace.door) (office_turns by [] trace.office)
        ∙ ap (λ (l : List Turn). l ++ at_moment m (office_turns by [] trace.office)) (filter-append (λ (turn : Turn). eqb (moment turn) m) (nodes_turns by 1 trace.nodes) (door_turns by 0 trace.door))
        ∙ ap (λ (l : List Turn). l ++ at_moment m (door_turns by 0 trace.door) ++ at_moment m (office_turns by [] trace.office)) nodes
        ∙ ap (λ (l : List Turn). n ++ l ++ at_moment m (office_turns by [] trace.office)) (part_now by line m is_at_door (door_turns by 0 trace.door) entries.door ∙ doors)
        ∙ ap (λ (l : List Turn). n ++ d ++ l) (part_now by line m is_at_office (office_turns by [] trace.office) entries.office ∙ offices)

    -- the turns of the moment stand in one list with the first of them
    with_first : (turn : Turn) (rest : List Turn) → these ≡ turn ∷ rest → (In turn line) × ((other : Turn) → In other these → same_list turn other ≡ true)
    with_first turn rest is =
        let found = in_filter (λ (t : Turn). eqb (moment t) m) turn line (subst (λ (l : List Turn). In turn l) (sym is) (inl refl)) in (
          found.0,
          λ other among.
              let its = in_filter (λ (t : Turn). eqb (moment t) m) other line among in
              let same : eqb (moment turn) (moment other) ≡ true = eq-eqb (moment turn) (moment other) (eqb-true (moment turn) m found.1 ∙ sym (eqb-true (moment other) m its.1)) in
              elim (or_cases (not (eqb (moment turn) (moment other))) (same_list turn other)
              (all_at (λ (o : Turn). not (eqb (moment turn) (moment o)) || same_list turn o) other line its.0
              (all_at (λ (t : Turn). list_all (λ (o : Turn). not (eqb (moment t) (moment o)) || same_list t o) line) turn line found.0 ties))) [
                | inl apart ↦ absurd (true≢false (sym same ∙ not-true (eqb (moment turn) (moment other)) apart))
                | inr one ↦ one
              ],
        )

    by_first : (first : List Turn) → these ≡ first → at_moment m lists ≡ these
    by_first [] is =
        joined [] [] [] (none_at_nodes by line m 1 trace.nodes entries.nodes (λ number le. ap (filter (is_at_node number)) is)) (ap (filter is_at_door) is) (ap (filter is_at_office) is) ∙ sym is
    by_first (AtDoor place act ∷ rest) is =
        let one = with_first (AtDoor place act) rest is in
        joined [] these [] (none_at_nodes by line m 1 trace.nodes entries.nodes (λ number le. filter_none (is_at_node number) these (λ other among. door_elsewhere number other (one.1 other among))))
        (filter_all is_at_door these one.1) (filter_none is_at_office these (λ other among. door_no_office other (one.1 other among))) ∙ append-nil these
    by_first (AtOffice before entry ∷ rest) is =
        let one = with_first (AtOffice before entry) rest is in
        joined [] [] these (none_at_nodes by line m 1 trace.nodes entries.nodes (λ number le. filter_none (is_at_node number) these (λ other among. office_elsewhere number other (one.1 other among))))
        (filter_none is_at_door these (λ other among. office_no_door other (one.1 other among))) (filter_all is_at_office these one.1)
    by_first (AtNode node before entry ∷ rest) is =
        let one = with_first (AtNode node before entry) rest is in
        joined these [] []
        (one_node by line m 1 node trace.nodes (AtNode node before entry) entries.nodes one.0 (eq-eqb node node refl) (counted node one.0)
        (filter_all (is_at_node node) these one.1) (λ other differ. filter_none (is_at_node other) these (λ turn among. node_elsewhere node other turn differ (one.1 turn among))))
        (filter_none is_at_door these (λ other among. node_no_door node other (one.1 other among))) (filter_none is_at_office these (λ other among. node_no_office node other (one.1 other among)))
        ∙ append-nil (these ++ []) ∙ append-nil these
      where
        counted : (number : ℕ) → In (AtNode number before entry) line → 1 ≤ number
        counted zero among = absurd (none_at (is_at_node 0) (AtNode 0 before entry) line among entries.no_node refl)
        counted (suc number) among = omega arith

    same_at : at_moment m lists ≡ these
    same_at = by_first these refl

  -- nothing is given up in a part of the turns
  nodes_quiet : (node : ℕ) (histories : List (List NodeEntry)) → AtNodes by node histories line → IsTrue (give_nothing_up line) → IsTrue (give_nothing_up (nodes_turns by node histories))
  nodes_quiet node [] of quiet = refl
  nodes_quiet node (history ∷ histories) of quiet =
      all_append (λ (turn : Turn). is_none (given_in turn)) (node_turns by node [] history) (nodes_turns by (suc node) histories)
      (subst (λ (l : List Turn). IsTrue (give_nothing_up l)) of.0 (all_filter (λ (turn : Turn). is_none (given_in turn)) (is_at_node node) line quiet))
      (nodes_quiet (suc node) histories of.1 quiet)

  pub in_order : IsTrue (moments_ascend line) → IsTrue (give_nothing_up line) → turns by trace ≡ line
  in_order up quiet =
      let all : IsTrue (give_nothing_up lists) =
      all_append (λ (turn : Turn). is_none (given_in turn)) (nodes_turns by 1 trace.nodes ++ door_turns by 0 trace.door) (office_turns by [] trace.office)
      (all_append (λ (turn : Turn). is_none (given_in turn)) (nodes_turns by 1 trace.nodes) (door_turns by 0 trace.door) (nodes_quiet 1 trace.nodes entries.nodes quiet)
      (subst (λ (l : List Turn). IsTrue (give_nothing_up l)) entries.door (all_filter (λ (turn : Turn). is_none (given_in turn)) is_at_door line quiet)))
      (subst (λ (l : List Turn). IsTrue (give_nothing_up l)) entries.office (all_filter (λ (turn : Turn). is_none (given_in turn)) is_at_office line quiet)) in
      alike (fold with_turn [] lists) line (sorted_ascends [] lists refl) up (λ m. sorted_stable m [] lists refl all ∙ same_at m)
