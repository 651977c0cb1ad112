-- The turns of a line that makes those at the nodes in the order of the nodes: the list in which they were made.
use Rattle.std.proofs.Common.{◌≡◌, ◌+◌, ℕ, zero, suc, Bool, true, false, not, List, [], ◌∷◌, ◌++◌, eqb, refl, sym, ap, subst, ◌∙◌, ◌⊎◌, inl, inr, append-nil, arith}
use Rattle.std.specs.Prelude.{IsTrue, filter, if◌then◌else◌, is_none}
use Rattle.std.specs.List.{fold}
use Rattle.std.proofs.lemmas.Bool.{eqb-true, false≢true}
use Rattle.std.proofs.lemmas.List.Elements.{filter-append}
use Rattle.aft_model.specs.declared.caller.By.{By}
use Rattle.aft_model.specs.declared.door.DoorEntry.{DoorEntry}
use Rattle.aft_model.specs.declared.node.NodeEntry.{NodeEntry}
use Rattle.aft_lines.specs.Turns.{AtDoor, AtNode, AtOffice, Turn, door_turns, given_in, moment, nodes_turns, turns, with_turn}
use Rattle.law_turns.proofs.Lists.{all_append, all_filter}
use Rattle.law_turns.proofs.Sorting.{alike, at_moment, sorted_ascends, sorted_stable}
use Rattle.law_turns.specs.Order.{give_nothing_up, is_at_door, moments_ascend}

abbrev pub is_elsewhere : Turn → Bool
is_elsewhere turn = not (is_at_door turn)

-- ---- at one moment all turns are made at the door, or none is

even_or_odd : (m : ℕ) → ((k : ℕ) × (m ≡ k + k)) ⊎ ((k : ℕ) × (m ≡ k + k + 1))
even_or_odd zero = inl (0, refl)
even_or_odd (suc m) = elim (even_or_odd m) [
  | inl even ↦ inr (even.0, (let is = even.1 in omega arith))
  | inr odd ↦ inl (suc odd.0, (let is = odd.1 in omega arith))
]

even_elsewhere : (turn : Turn) (k : ℕ) → moment turn ≡ k + k → is_at_door turn ≡ false
even_elsewhere (AtDoor place act) k is = absurd (omega arith)
even_elsewhere (AtNode node before entry) k is = refl
even_elsewhere (AtOffice before entry) k is = refl

odd_at_door : (turn : Turn) (k : ℕ) → moment turn ≡ k + k + 1 → is_at_door turn ≡ true
odd_at_door (AtDoor place act) k is = refl
odd_at_door (AtNode node before entry) k is = absurd (omega arith)
odd_at_door (AtOffice before entry) k is = absurd (omega arith)

-- ---- a list, of which some tests take all, or none

filter_in : {A : Type 0} (p q : A → Bool) (xs : List A) → ((x : A) → p x ≡ true → q x ≡ true) → filter p (filter q xs) ≡ filter p xs
filter_in p q [] all = refl
filter_in {A} p q (x ∷ xs) all = cases (p x) refl (q x) refl (filter_in p q xs all)
  where
    cases : (s : Bool) → p x ≡ s → (t : Bool) → q x ≡ t → filter p (filter q xs) ≡ filter p xs → filter p (if t then x ∷ filter q xs else filter q xs) ≡ (if s then x ∷ filter p xs else filter p xs)
    cases true px true qx rest = ap (λ (b : Bool). if b then x ∷ filter p (filter q xs) else filter p (filter q xs)) px ∙ ap (λ (l : List A). x ∷ l) rest
    cases true px false qx rest = absurd (false≢true (sym qx ∙ all x px))
    cases false px true qx rest = ap (λ (b : Bool). if b then x ∷ filter p (filter q xs) else filter p (filter q xs)) px ∙ rest
    cases false px false qx rest = rest

filter_out : {A : Type 0} (p q : A → Bool) (xs : List A) → ((x : A) → p x ≡ true → q x ≡ false) → filter p (filter q xs) ≡ []
filter_out p q [] none = refl
filter_out {A} p q (x ∷ xs) none = cases (p x) refl (q x) refl (filter_out p q xs none)
  where
    cases : (s : Bool) → p x ≡ s → (t : Bool) → q x ≡ t → filter p (filter q xs) ≡ [] → filter p (if t then x ∷ filter q xs else filter q xs) ≡ []
    cases true px true qx rest = absurd (false≢true (sym (none x px) ∙ qx))
    cases true px false qx rest = rest
    cases false px true qx rest = ap (λ (b : Bool). if b then x ∷ filter p (filter q xs) else filter p (filter q xs)) px ∙ rest
    cases false px false qx rest = rest

-- ---- the order

module _ (by : By) (door : List DoorEntry) (nodes : List (List NodeEntry)) (line : List Turn) (at_door : filter is_at_door line ≡ door_turns by 0 door) (at_nodes : filter is_elsewhere line ≡ nodes_turns by 1 nodes) where
  abbrev lists : List Turn
  lists = nodes_turns by 1 nodes ++ door_turns by 0 door ++ []

  module _ (m : ℕ) where
    abbrev now : Turn → Bool
    now turn = eqb (moment turn) m

    parts : at_moment m lists ≡ filter now (filter is_elsewhere line) ++ filter now (filter is_at_door line)
    parts =
        ap (at_moment m) (append-nil (nodes_turns by 1 nodes ++ door_turns by 0 door))
        ∙ filter-append now (nodes_turns by 1 nodes) (door_turns by 0 door)
        ∙ ap (λ (l : List Turn). filter now l ++ filter now (door_turns by 0 door)) (sym at_nodes)
        ∙ ap (λ (l : List Turn). filter now (filter is_elsewhere line) ++ filter now l) (sym at_door)

    same_at : at_moment m lists ≡ at_moment m line
    same_at = elim (even_or_odd m) [
      | inl even ↦
          (let here : (turn : Turn) → now turn ≡ true → is_at_door turn ≡ false = λ turn is. even_elsewhere turn even.0 (eqb-true (moment turn) m is ∙ even.1) in
          parts
          ∙ ap (λ (l : List Turn). l ++ filter now (filter is_at_door line)) (filter_in now is_elsewhere line (λ turn is. ap not (here turn is)))
          ∙ ap (λ (l : List Turn). filter now line ++ l) (filter_out now is_at_door line here)
          ∙ append-nil (filter now line))
      | inr odd ↦
          (let here : (turn : Turn) → now turn ≡ true → is_at_door turn ≡ true = λ turn is. odd_at_door turn odd.0 (eqb-true (moment turn) m is ∙ odd.1) in
          parts
          ∙ ap (λ (l : List Turn). l ++ filter now (filter is_at_door line)) (filter_out now is_elsewhere line (λ turn is. ap not (here turn is)))
          ∙ filter_in now is_at_door line here)
    ]

  abbrev Quiet : Turn → Bool
  Quiet turn = is_none (given_in turn)

  all_quiet : IsTrue (give_nothing_up line) → IsTrue (give_nothing_up lists)
  all_quiet quiet =
      all_append Quiet (nodes_turns by 1 nodes ++ door_turns by 0 door) []
      (all_append Quiet (nodes_turns by 1 nodes) (door_turns by 0 door)
      (subst (λ (l : List Turn). IsTrue (give_nothing_up l)) at_nodes (all_filter Quiet is_elsewhere line quiet))
      (subst (λ (l : List Turn). IsTrue (give_nothing_up l)) at_door (all_filter Quiet is_at_door line quiet))) refl

  -- where no moment falls, and nothing is given up, they are its turns in order
  pub in_order : IsTrue (moments_ascend line) → IsTrue (give_nothing_up line) → turns by (record { door = door; nodes = nodes; office = [] }) ≡ line
  in_order up quiet = alike (fold with_turn [] lists) line (sorted_ascends [] lists refl) up (λ m. sorted_stable m [] lists refl (all_quiet quiet) ∙ same_at m)
