-- Lists with a rule for each element behind those before it.
use Rattle.std.proofs.Common.{◌≡◌, Bool, ◌&&◌, List, [], ◌∷◌, ◌++◌, refl, sym, ap, subst, inl, inr, append_assoc, append-nil}
use Rattle.std.specs.Prelude.{IsTrue}
use Rattle.std.proofs.lemmas.Bool.{and_from, and_parts}
use Rattle.aft_model.specs.History.{each_after}
use Rattle.aft_model.proofs.Histories.{In}

-- what holds wherever the list is parted holds of each element
pub each_from : {A : Type 0} (rule : List A → A → Bool) (before xs : List A) → ((front : List A) (x : A) (back : List A) → xs ≡ front ++ x ∷ back → IsTrue (rule (before ++ front) x)) → IsTrue (each_after rule before xs)
each_from rule before [] each = refl
each_from {A} rule before (x ∷ xs) each =
    and_from _ _ (subst (λ (h : List A). IsTrue (rule h x)) (append-nil before) (each [] x xs refl))
    (each_from rule (before ++ x ∷ []) xs (λ front y back is. subst (λ (h : List A). IsTrue (rule h y)) (sym (append_assoc before (x ∷ []) front)) (each (x ∷ front) y back (ap (λ (l : List A). x ∷ l) is))))

-- two rules together
pub each_both : {A : Type 0} (one other : List A → A → Bool) (before xs : List A) → IsTrue (each_after one before xs) → IsTrue (each_after other before xs) → IsTrue (each_after (λ h x. one h x && other h x) before xs)
each_both one other before [] a b = refl
each_both one other before (x ∷ xs) a b =
    let p = and_parts (one before x) (each_after one (before ++ x ∷ []) xs) a in
    let q = and_parts (other before x) (each_after other (before ++ x ∷ []) xs) b in
    and_from _ _ (and_from _ _ p.0 q.0) (each_both one other (before ++ x ∷ []) xs p.1 q.1)

-- a list parted at one of its elements
pub split_at : {A : Type 0} (x : A) (xs : List A) → In x xs → (before : List A) × (after : List A) × (xs ≡ before ++ x ∷ after)
split_at x [] among = absurd among
split_at {A} x (y ∷ ys) (inl here) = ([], ys, ap (λ (z : A). z ∷ ys) (sym here))
split_at {A} x (y ∷ ys) (inr later) = (let rest = split_at x ys later in (y ∷ rest.0, rest.1, ap (λ (l : List A). y ∷ l) rest.2))
