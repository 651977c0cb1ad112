-- A rule that each entry keeps behind those before it, at a place.
use Rattle.std.proofs.Common.{◌≡◌, ℕ, zero, suc, Bool, List, [], ◌∷◌, ◌++◌, sym, subst, append_assoc, append-nil}
use Rattle.std.specs.Prelude.{IsTrue, Option, Some, take}
use Rattle.std.proofs.lemmas.Bool.{and_parts}
use Rattle.aft_model.specs.History.{at_place, each_after}

some_is : {A : Type 0} (x y : A) → (let o : Option A = Some x in o) ≡ Some y → x ≡ y
some_is x y e = cc

pub rule_at : {A : Type 0} (rule : List A → A → Bool) (before xs : List A) (place : ℕ) (x : A) → IsTrue (each_after rule before xs) → at_place place xs ≡ Some x → IsTrue (rule (before ++ take place xs) x)
rule_at rule before [] zero x each is = absurd (cc)
rule_at rule before [] (suc place) x each is = absurd (cc)
rule_at {A} rule before (y ∷ ys) zero x each is =
    let parts = and_parts (rule before y) (each_after rule (before ++ y ∷ []) ys) each in
    subst (λ (h : List A). IsTrue (rule h x)) (sym (append-nil before)) (subst (λ (z : A). IsTrue (rule before z)) (some_is y x is) parts.0)
rule_at {A} rule before (y ∷ ys) (suc place) x each is =
    let parts = and_parts (rule before y) (each_after rule (before ++ y ∷ []) ys) each in
    subst (λ (h : List A). IsTrue (rule h x)) (append_assoc before (y ∷ []) (take place ys)) (rule_at rule (before ++ y ∷ []) ys place x parts.1 is)
