-- A rule of each entry that follows from a test of each.
use Rattle.std.proofs.Common.{List, [], arith, eqb, length, refl, suc, ◌++◌, ◌∷◌, ◌≡◌}
use Rattle.std.specs.Prelude.{Bool, IsTrue}
use Rattle.std.specs.List.{list_all}
use Rattle.std.proofs.lemmas.Bool.{and_from, and_parts, eqb-true}
use Rattle.aft_model.specs.History.{each_after}
use Rattle.aft_lines.specs.RefusedTrace.{are_empty}

pub each_of : {A : Type 0} (test : A → Bool) (rule : List A → A → Bool) → ((before : List A) (x : A) → IsTrue (test x) → IsTrue (rule before x)) → (before xs : List A) → IsTrue (list_all test xs) → IsTrue (each_after rule before xs)
each_of test rule so before [] all = refl
each_of test rule so before (x ∷ xs) all = (let parts = and_parts (test x) (list_all test xs) all in and_from _ _ (so before x parts.0) (each_of test rule so (before ++ x ∷ []) xs parts.1))

-- what a rule adds to a test of each
pub each_adds : {A : Type 0} (test more : A → Bool) (rule : List A → A → Bool) → ((before : List A) (x : A) → IsTrue (rule before x) → IsTrue (test x) → IsTrue (more x)) → (before xs : List A) → IsTrue (each_after rule before xs) → IsTrue (list_all test xs) → IsTrue (list_all more xs)
each_adds test more rule so before [] each all = refl
each_adds test more rule so before (x ∷ xs) each all =
    let parts = and_parts (test x) (list_all test xs) all in
    let rules = and_parts (rule before x) (each_after rule (before ++ x ∷ []) xs) each in
    and_from _ _ (so before x rules.0 parts.0) (each_adds test more rule so (before ++ x ∷ []) xs rules.1 parts.1)

-- a list that has an element isn't empty
pub not_empty : {A : Type 0} (x : A) (xs : List A) → IsTrue (eqb (length (x ∷ xs)) 0) → ⊥
not_empty x xs empty = (let none : suc (length xs) ≡ 0 = eqb-true (suc (length xs)) 0 empty in omega arith)

pub none_empty : {A : Type 0} (x : A) (xs : List A) (more : List (List A)) → IsTrue (are_empty ((x ∷ xs) ∷ more)) → ⊥
none_empty x xs more empty = not_empty x xs (and_parts (eqb (length (x ∷ xs)) 0) (are_empty more) empty).0
