-- Lemmas on lists of which a test fails nowhere.
use Rattle.std.proofs.Common.{◌≡◌, Bool, true, false, not, cond, List, [], ◌∷◌, filter, refl}
use Rattle.std.specs.Prelude.{IsTrue}

-- a test that holds of each element of a list
abbrev pub Everywhere : {A : Type 0} → (A → Bool) → List A → Type 0
Everywhere test [] = Unit {0}
Everywhere test (x ∷ xs) = IsTrue (test x) × Everywhere test xs

pub none_fails : {A : Type 0} (test : A → Bool) (xs : List A) → Everywhere test xs → filter (λ x. not (test x)) xs ≡ []
none_fails test [] passed = refl
none_fails test (x ∷ xs) passed = let here : test x ≡ true = passed.0 in rw here (none_fails test xs passed.1)

-- an element at which a test gives this, in front of what a filter keeps
pub passes_in_front : {A : Type 0} (outcome : Bool) (x : A) (kept : List A) → cond (not outcome) (x ∷ kept) kept ≡ [] → IsTrue outcome
passes_in_front true x kept e = refl
passes_in_front false x kept e = cc

pub everywhere : {A : Type 0} (test : A → Bool) (xs : List A) → filter (λ x. not (test x)) xs ≡ [] → Everywhere test xs
everywhere test [] e = tt
everywhere test (x ∷ xs) e =
    let here : test x ≡ true = passes_in_front (test x) x (filter (λ x. not (test x)) xs) e in
    (here, everywhere test xs (rw here at e))
