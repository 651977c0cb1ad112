-- Sums over all seats, and counts of places.
use Rattle.std.proofs.Common.{◌≡◌, ◌≢◌, ℕ, zero, suc, ◌+◌, ◌<◌, ◌≤◌, ◌==◌, List, [], ◌∷◌, ◌++◌, set, sym, refl, ap, arith}
use Rattle.std.proofs.lemmas.Bool.Decides.{nat_tests}
use mathlib.Core.Option.{some, some-injective, some-ne-none}
use lib.ListN.{get_elem?}
use Rattle.aft_chron.specs.Rule.{total}
use Rattle.aft_chron.specs.Standing.{once, within, times}

module _ {A : Type 0} (f : A → ℕ) where
  -- the sum after one is replaced
  pub total_set : (l : List A) (i : ℕ) (v w : A) → get_elem? l i ≡ some v → total f (set l i w) + f v ≡ total f l + f w
  total_set [] i v w e = absurd (some-ne-none v (sym e))
  total_set (x ∷ xs) zero v w e = omega (arith, ap f (some-injective x v e))
  total_set (x ∷ xs) (suc i) v w e = omega (arith, total_set xs i v w e)

  pub total_same : (l : List A) (i : ℕ) (v w : A) → get_elem? l i ≡ some v → f w ≡ f v → total f (set l i w) ≡ total f l
  total_same l i v w e same = omega (arith, total_set l i v w e)

  pub total_one : (l : List A) (i : ℕ) (v : A) → get_elem? l i ≡ some v → f v ≤ total f l
  total_one [] i v e = absurd (some-ne-none v (sym e))
  total_one (x ∷ xs) zero v e = omega (arith, ap f (some-injective x v e))
  total_one (x ∷ xs) (suc i) v e = omega (arith, total_one xs i v e)

  -- two of them are together at most the sum
  pub total_two : (l : List A) (i j : ℕ) (v w : A) → i ≢ j → get_elem? l i ≡ some v → get_elem? l j ≡ some w → f v + f w ≤ total f l
  total_two [] i j v w ne e h = absurd (some-ne-none v (sym e))
  total_two (x ∷ xs) zero zero v w ne e h = absurd (ne refl)
  total_two (x ∷ xs) zero (suc j) v w ne e h = omega (arith, ap f (some-injective x v e), total_one xs j w h)
  total_two (x ∷ xs) (suc i) zero v w ne e h = omega (arith, ap f (some-injective x w h), total_one xs i v e)
  total_two (x ∷ xs) (suc i) (suc j) v w ne e h = omega (arith, total_two xs i j v w (λ s. ne (ap suc s)) e h)

  pub total_end : (l : List A) (v : A) → total f (l ++ v ∷ []) ≡ total f l + f v
  total_end [] v = omega arith
  total_end (x ∷ xs) v = omega (arith, total_end xs v)

module _ {A : Type 0} (f g : A → ℕ) where
  pub total_le : (l : List A) → ((i : ℕ) (v : A) → get_elem? l i ≡ some v → f v ≤ g v) → total f l ≤ total g l
  total_le [] le = omega arith
  total_le (x ∷ xs) le = omega (arith, le 0 x refl, total_le xs (λ i v e. le (suc i) v e))

  -- where each of f is at most that of g, one of g goes with the others of f
  pub total_gap : (l : List A) (i : ℕ) (v : A) → ((j : ℕ) (w : A) → get_elem? l j ≡ some w → f w ≤ g w) → get_elem? l i ≡ some v → total f l + g v ≤ total g l + f v
  total_gap [] i v le e = absurd (some-ne-none v (sym e))
  total_gap (x ∷ xs) zero v le e = omega (arith, ap f (some-injective x v e), ap g (some-injective x v e), total_le xs (λ j w h. le (suc j) w h))
  total_gap (x ∷ xs) (suc i) v le e = omega (arith, le 0 x refl, total_gap xs i v (λ j w h. le (suc j) w h) e)

zeros : {A : Type 0} (f : A → ℕ) (l : List A) → ((j : ℕ) (w : A) → get_elem? l j ≡ some w → f w ≡ 0) → total f l ≡ 0
zeros f [] none = refl
zeros f (x ∷ xs) none = omega (arith, none 0 x refl, zeros f xs (λ j w h. none (suc j) w h))

-- where all but one are 0, the sum is that one
pub total_sole : {A : Type 0} (f : A → ℕ) (l : List A) (i : ℕ) (v : A) → get_elem? l i ≡ some v → ((j : ℕ) (w : A) → j ≢ i → get_elem? l j ≡ some w → f w ≡ 0) → total f l ≡ f v
total_sole f [] i v e none = absurd (some-ne-none v (sym e))
total_sole f (x ∷ xs) zero v e none = omega (arith, ap f (some-injective x v e), zeros f xs (λ j w h. none (suc j) w (λ p. omega arith) h))
total_sole f (x ∷ xs) (suc i) v e none = omega (arith, none 0 x (λ p. omega arith) refl, total_sole f xs i v e (λ j w ne h. none (suc j) w (λ p. ne (omega arith)) h))

pub times_end : (p : ℕ) (xs : List ℕ) (q : ℕ) → times p (xs ++ q ∷ []) ≡ times p xs + once (q == p)
times_end p [] q = omega arith
times_end p (x ∷ xs) q = omega (arith, times_end p xs q)

pub times_append : (p : ℕ) (xs ys : List ℕ) → times p (xs ++ ys) ≡ times p xs + times p ys
times_append p [] ys = omega arith
times_append p (x ∷ xs) ys = omega (arith, times_append p xs ys)

-- one number more at the end
pub within_end : (a b n : ℕ) → a ≤ b → within a (b + 1) n ≡ within a b n + once (b == n)
within_end a b n le = grind (arith, nat_tests)

-- one number fewer at the start
pub within_start : (a b n : ℕ) → a < b → within (a + 1) b n + once (a == n) ≡ within a b n
within_start a b n lt = grind (arith, nat_tests)

pub within_most : (a b n : ℕ) → within a b n ≤ 1
within_most a b n = grind (arith, nat_tests)

pub within_none : (a n : ℕ) → within a a n ≡ 0
within_none a n = grind (arith, nat_tests)

pub within_here : (a b n : ℕ) → a ≤ n → n < b → within a b n ≡ 1
within_here a b n le lt = grind (arith, nat_tests)
