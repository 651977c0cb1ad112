-- What the maps tell of the history.
use Rattle.std.proofs.Common.{◌≡◌, ℕ, suc, zero, ◌+◌, ◌<◌, ◌≤◌, Bool, true, false, ◌||◌, ◌&&◌, min, max, List, [], ◌∷◌, ◌++◌, drop, refl, sym, ap, ◌∙◌, ◌⊎◌, inl, inr, arith, eqb, leb, ltb}
use Rattle.std.specs.Prelude.{IsTrue, Option, Some, None, if◌then◌else◌, fold}
use Rattle.std.specs.List.{list_any, flat_map}
use Rattle.std.specs.Option.{option_eq}
use Rattle.std.specs.Prelude.{nat_eq}
use Rattle.std.proofs.Math.Bool.{or_assoc, or-false}
use Rattle.std.proofs.lemmas.Bool.{and_from, cases_lt, eqb-true, eq-eqb, false_from_ne_true, false≢true, le-leb, leb-true, lt-ltb, ltb-true, or_cases, or_left, or_right}
use Rattle.aft_model.specs.declared.door.DoorEntry.{DoorEntry}
use Rattle.aft_model.specs.History.{first_of, last_place, last_place_from}
use Rattle.aft_model.specs.Membership.{Incarnation, fenced, inc_at, incarnation, is_up, last_inc, next_inc, same_incarnation, up_now, ups}
use Rattle.aft_door.specs.Index.{greater, greatest}
use Rattle.aft_door.specs.Ledger.{OneUp}

-- a bool that is true just where another is
same_truth : (a b : Bool) → (IsTrue a → IsTrue b) → (IsTrue b → IsTrue a) → a ≡ b
same_truth true true f g = refl
same_truth true false f g = absurd (false≢true (f refl))
same_truth false true f g = absurd (false≢true (g refl))
same_truth false false f g = refl

-- an incarnation of a node, if the list has one, is in it
pub first_in : (node inc : ℕ) (xs : List Incarnation) → first_of (flat_map (inc_at node) xs) ≡ Some inc → IsTrue (list_any (same_incarnation (incarnation node inc)) xs)
first_in node inc [] e = absurd (cc)
first_in node inc (x ∷ xs) e = cases (first_in node inc xs) (eqb x.node node) refl e
  where
    cases : (first_of (flat_map (inc_at node) xs) ≡ Some inc → IsTrue (list_any (same_incarnation (incarnation node inc)) xs)) → (t : Bool) → eqb x.node node ≡ t
        → first_of ((if t then x.inc ∷ [] else []) ++ flat_map (inc_at node) xs) ≡ Some inc → IsTrue (same_incarnation (incarnation node inc) x || list_any (same_incarnation (incarnation node inc)) xs)
    cases rest true same e = or_left _ _ (and_from _ _ (eq-eqb node x.node (sym (eqb-true x.node node same))) (eq-eqb inc x.inc (let i : x.inc ≡ inc = cc in sym i)))
    cases rest false other e = or_right _ _ (rest e)

-- one incarnation of a node is up just where it is the one that is up now
pub up_is : (history : List DoorEntry) (node inc : ℕ) → OneUp history → option_eq nat_eq (up_now node history) (Some inc) ≡ is_up (incarnation node inc) history
up_is history node inc one = same_truth _ _ (λ same. first_in node inc (ups history) (is (up_now node history) same)) (λ up. from (up_now node history) (one (incarnation node inc) up))
  where
    is : (o : Option ℕ) → IsTrue (option_eq nat_eq o (Some inc)) → o ≡ Some inc
    is None same = absurd (false≢true same)
    is (Some x) same = ap (λ n. Some n) (eqb-true x inc same)

    from : (o : Option ℕ) → o ≡ Some inc → IsTrue (option_eq nat_eq o (Some inc))
    from None e = absurd (cc)
    from (Some x) e = eq-eqb x inc (let i : x ≡ inc = cc in i)

ge-ltb : (a b : ℕ) → b ≤ a → ltb a b ≡ false
ge-ltb a b le = false_from_ne_true _ (λ h. let lt : a < b = ltb-true a b h in absurd (omega arith))

-- ---- fenced incarnations

-- whether a number is at most the greatest, if there is one
abbrev pub reaches : ℕ → Option ℕ → Bool
reaches n None = false
reaches n (Some most) = leb n most

-- the number, or 0
abbrev or_zero : Option ℕ → ℕ
or_zero None = 0
or_zero (Some n) = n

greatest_from : (most : ℕ) (xs : List ℕ) → fold greater (Some most) xs ≡ Some (fold max most xs)
greatest_from most [] = refl
greatest_from most (x ∷ xs) = greatest_from (max most x) xs

greatest_or_zero : (xs : List ℕ) → fold max 0 xs ≡ or_zero (greatest xs)
greatest_or_zero [] = refl
greatest_or_zero (x ∷ xs) = ap (λ m. fold max m xs) (let e : max 0 x ≡ x = omega arith in e) ∙ sym (ap or_zero (greatest_from x xs))

max_reached : (n a b : ℕ) → leb n (max a b) ≡ (leb n a || leb n b)
max_reached n a b = same_truth _ _ (λ h. let is : n ≤ max a b = leb-true n (max a b) h in by (cases_lt a n) is) (λ h. elim (or_cases (leb n a) (leb n b) h) [
  | inl first ↦ (let p : n ≤ a = leb-true n a first in le-leb n (max a b) (omega arith))
  | inr second ↦ (let p : n ≤ b = leb-true n b second in le-leb n (max a b) (omega arith))
])
  where
    by : (a < n) ⊎ (n ≤ a) → n ≤ max a b → IsTrue (leb n a || leb n b)
    by (inl above) is = or_right _ _ (le-leb n b (omega arith))
    by (inr within) is = or_left _ _ (le-leb n a within)

reached_from : (n most : ℕ) (xs : List ℕ) → leb n (fold max most xs) ≡ (leb n most || list_any (leb n) xs)
reached_from n most [] = same_truth _ _ (λ h. or_left _ _ h) (λ h. elim (or_cases (leb n most) false h) [ inl is ↦ is | inr nothing ↦ absurd (false≢true nothing) ])
reached_from n most (x ∷ xs) = reached_from n (max most x) xs ∙ ap (λ t. t || list_any (leb n) xs) (max_reached n most x) ∙ or_assoc (leb n most) (leb n x) (list_any (leb n) xs)

reached : (n : ℕ) (xs : List ℕ) → reaches n (greatest xs) ≡ list_any (leb n) xs
reached n [] = refl
reached n (x ∷ xs) = ap (reaches n) (greatest_from x xs) ∙ reached_from n x xs

incs_reached : (node n : ℕ) (xs : List Incarnation) → list_any (leb n) (flat_map (inc_at node) xs) ≡ list_any (λ (other : Incarnation). eqb other.node node && leb n other.inc) xs
incs_reached node n [] = refl
incs_reached node n (x ∷ xs) = cases (eqb x.node node) (incs_reached node n xs)
  where
    cases : (t : Bool) → list_any (leb n) (flat_map (inc_at node) xs) ≡ list_any (λ (other : Incarnation). eqb other.node node && leb n other.inc) xs
        → list_any (leb n) ((if t then x.inc ∷ [] else []) ++ flat_map (inc_at node) xs) ≡ (t && leb n x.inc || list_any (λ (other : Incarnation). eqb other.node node && leb n other.inc) xs)
    cases true rest = ap (λ t. leb n x.inc || t) rest
    cases false rest = rest

-- whether one of this number or a greater one was fenced, by the greatest
pub fenced_is : (node n : ℕ) (history : List DoorEntry) (most : Option ℕ) → most ≡ greatest (flat_map (inc_at node) (fenced history))
    → reaches n most ≡ list_any (λ (other : Incarnation). eqb other.node node && leb n other.inc) (fenced history)
fenced_is node n history most is = ap (reaches n) is ∙ reached n (flat_map (inc_at node) (fenced history)) ∙ incs_reached node n (fenced history)

-- the next incarnation, by the greatest that was fenced
abbrev pub next_by : Option ℕ → ℕ
next_by None = 1
next_by (Some most) = if ltb most last_inc then suc most else last_inc

-- one more, short of the last
pub next_capped : (n m : ℕ) → m ≡ min (n + 1) 4294967295 → n < 4294967296 → m ≡ (if ltb n last_inc then suc n else last_inc)
next_capped n m is small = elim (cases_lt n last_inc) [
  | inl below ↦ rw (lt-ltb n last_inc below) (omega arith)
  | inr most ↦ rw (ge-ltb n last_inc most) (omega arith)
]

pub next_is : (node : ℕ) (history : List DoorEntry) (most : Option ℕ) → most ≡ greatest (flat_map (inc_at node) (fenced history)) → next_by most ≡ next_inc node history
next_is node history most is = by most ∙ ap (λ n. if ltb n last_inc then suc n else last_inc) (ap or_zero is ∙ sym (greatest_or_zero (flat_map (inc_at node) (fenced history))))
  where
    by : (o : Option ℕ) → next_by o ≡ (if ltb (or_zero o) last_inc then suc (or_zero o) else last_inc)
    by None = refl
    by (Some n) = refl

-- ---- the last place

-- whether a place is behind this one, if there is one
abbrev pub is_behind : ℕ → Option ℕ → Bool
is_behind place None = false
is_behind place (Some last) = ltb place last

module _ {A : Type 0} (test : A → Bool) (place : ℕ) where
  behind_all : (n : ℕ) (before : Option ℕ) (xs : List A) → place < n → is_behind place (last_place_from test n before xs) ≡ (list_any test xs || is_behind place before)
  behind_all n before [] far = refl
  behind_all n before (x ∷ xs) far = behind_all (suc n) (if test x then Some n else before) xs (omega arith) ∙ cases (test x) (list_any test xs)
    where
      cases : (t rest : Bool) → (rest || is_behind place (if t then Some n else before)) ≡ ((t || rest) || is_behind place before)
      cases true true = refl
      cases true false = lt-ltb place n far
      cases false rest = refl

  behind_from : (n k : ℕ) (before : Option ℕ) (xs : List A) → suc place ≡ n + k → is_behind place before ≡ false → is_behind place (last_place_from test n before xs) ≡ list_any test (drop k xs)
  behind_from n zero before xs at none =
      behind_all n before xs (omega arith) ∙ ap (λ t. list_any test xs || t) none ∙ or-false (list_any test xs)
  behind_from n (suc k) before [] at none = none
  behind_from n (suc k) before (x ∷ xs) at none = behind_from (suc n) k (if test x then Some n else before) xs (omega arith) (cases (test x))
    where
      cases : (t : Bool) → is_behind place (if t then Some n else before) ≡ false
      cases true = false_from_ne_true _ (λ h. let far : place < n = ltb-true place n h in absurd (omega arith))
      cases false = none

  pub behind_is : (xs : List A) → is_behind place (last_place test xs) ≡ list_any test (drop (suc place) xs)
  behind_is xs = behind_from 0 (suc place) None xs (omega arith) refl
