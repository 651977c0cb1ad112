-- Notes of which some count, and numbers in a history.
use Rattle.std.proofs.Common.{◌≡◌, ℕ, ◌+◌, ◌≤◌, Bool, List, [], ◌∷◌, ◌++◌, length, arith, true, false, sym, subst}
use Rattle.std.specs.Prelude.{Contains}
use Rattle.std.proofs.lemmas.List.Elements.{Contains-append_left, Contains-push}
use mathlib.Core.List.{IsPrefix}
use Rattle.aft_chron.specs.Standing.{once}
use Rattle.aft_chron.specs.Tried.{answers}

pub answers_end : (notes : List (Bool × ℕ)) (note : Bool × ℕ) → answers (notes ++ note ∷ []) ≡ answers notes + once note.0
answers_end [] note = omega arith
answers_end (x ∷ xs) note = omega (arith, answers_end xs note)

once_most : (b : Bool) → once b ≤ 1
once_most true = omega arith
once_most false = omega arith

pub answers_most : (notes : List (Bool × ℕ)) → answers notes ≤ length notes
answers_most [] = omega arith
answers_most (x ∷ xs) = omega (arith, answers_most xs, once_most x.0)

-- a number that was added at the end is there
pub contains_added : (xs ys : List ℕ) (n : ℕ) → ys ≡ xs ++ n ∷ [] → Contains ys n
contains_added xs ys n added = subst (λ l. Contains l n) (sym added) (Contains-push xs n)

-- what is in a history is in each that it begins
pub contains_begun : (xs ys : List ℕ) (n : ℕ) → IsPrefix xs ys → Contains xs n → Contains ys n
contains_begun xs ys n begins here = subst (λ l. Contains l n) begins.1 (Contains-append_left xs begins.0 n here)
