-- A history with one more entry.
use Rattle.std.proofs.Common.{Bool, List, [], ◌∷◌, ◌++◌, refl, sym, subst, append_assoc, append-nil}
use Rattle.std.specs.Prelude.{IsTrue}
use Rattle.std.specs.List.{list_all}
use Rattle.std.proofs.lemmas.Bool.{and_parts, and_from}
use Rattle.aft_model.specs.History.{each_after}

-- each entry passes a rule where each before it does, and it does behind them
each_after-from : {A : Type 0} (rule : List A → A → Bool) (before xs : List A) (x : A) → IsTrue (each_after rule before xs) → IsTrue (rule (before ++ xs) x) → IsTrue (each_after rule before (xs ++ x ∷ []))
each_after-from rule before [] x passed last = and_from _ _ (subst (λ h. IsTrue (rule h x)) (append-nil before) last) refl
each_after-from rule before (y ∷ ys) x passed last =
    let parts = and_parts (rule before y) (each_after rule (before ++ y ∷ []) ys) passed in
    and_from _ _ parts.0 (each_after-from rule (before ++ y ∷ []) ys x parts.1 (subst (λ h. IsTrue (rule h x)) (sym (append_assoc before (y ∷ []) ys)) last))

pub each_after-more : {A : Type 0} (rule : List A → A → Bool) (xs : List A) (x : A) → IsTrue (each_after rule [] xs) → IsTrue (rule xs x) → IsTrue (each_after rule [] (xs ++ x ∷ []))
each_after-more rule xs x passed last = each_after-from rule [] xs x passed last

-- all pass a test where those before the last do, and it does
pub all-more : {A : Type 0} (test : A → Bool) (xs : List A) (x : A) → IsTrue (list_all test xs) → IsTrue (test x) → IsTrue (list_all test (xs ++ x ∷ []))
all-more test [] x passed last = and_from _ _ last refl
all-more test (y ∷ ys) x passed last = let parts = and_parts (test y) (list_all test ys) passed in and_from _ _ parts.0 (all-more test ys x parts.1 last)
