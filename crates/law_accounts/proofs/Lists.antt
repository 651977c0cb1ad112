-- Lists with an element more, and numbered lists one of which has.
use Rattle.std.proofs.Common.{◌≡◌, ℕ, suc, Bool, true, false, List, [], ◌∷◌, ◌++◌, refl, sym, subst, ap, ◌∙◌, inl, inr, eqb, append-nil, append_assoc}
use Rattle.std.specs.Prelude.{IsTrue, if◌then◌else◌, length, map}
use Rattle.std.specs.List.{list_all, list_any}
use Rattle.std.proofs.lemmas.Bool.{and_from, and_parts, or_cases, or_left, or_right}
use Rattle.std.proofs.lemmas.List.Folds.{list_all-append}
use Rattle.aft_model.proofs.Histories.{In}
use Rattle.aft_model.specs.History.{each_after}
use Rattle.law_accounts.specs.Adding.{numbered_in, with_entry_in}

-- ---- with an element more

pub all_more : {A : Type 0} (test : A → Bool) (xs : List A) (x : A) → IsTrue (list_all test xs) → IsTrue (test x) → IsTrue (list_all test (xs ++ x ∷ []))
all_more test xs x all last = list_all-append test xs (x ∷ []) ∙ and_from _ _ all (and_from _ _ last refl)

pub each_more : {A : Type 0} (rule : List A → A → Bool) (xs : List A) (x : A) → IsTrue (each_after rule [] xs) → IsTrue (rule xs x) → IsTrue (each_after rule [] (xs ++ x ∷ []))
each_more {A} rule xs x passed last = go [] xs passed last
  where
    go : (before ys : List A) → IsTrue (each_after rule before ys) → IsTrue (rule (before ++ ys) x) → IsTrue (each_after rule before (ys ++ x ∷ []))
    go before [] passed last = and_from _ _ (subst (λ h. IsTrue (rule h x)) (append-nil before) last) refl
    go before (y ∷ ys) passed last =
        let parts = and_parts (rule before y) (each_after rule (before ++ y ∷ []) ys) passed in
        and_from _ _ parts.0 (go (before ++ y ∷ []) ys parts.1 (subst (λ h. IsTrue (rule h x)) (sym (append_assoc before (y ∷ []) ys)) last))

-- a rule by which another passes too
pub each_so : {A : Type 0} (rule other : List A → A → Bool) → ((before : List A) (x : A) → IsTrue (rule before x) → IsTrue (other before x)) → (before xs : List A) → IsTrue (each_after rule before xs) → IsTrue (each_after other before xs)
each_so rule other so before [] passed = refl
each_so rule other so before (x ∷ xs) passed =
    let parts = and_parts (rule before x) (each_after rule (before ++ x ∷ []) xs) passed in
    and_from _ _ (so before x parts.0) (each_so rule other so (before ++ x ∷ []) xs parts.1)

pub all_so : {A : Type 0} (test other : A → Bool) → ((x : A) → IsTrue (test x) → IsTrue (other x)) → (xs : List A) → IsTrue (list_all test xs) → IsTrue (list_all other xs)
all_so test other so [] passed = refl
all_so test other so (x ∷ xs) passed = (let parts = and_parts (test x) (list_all test xs) passed in and_from _ _ (so x parts.0) (all_so test other so xs parts.1))

pub any_so : {A : Type 0} (test other : A → Bool) → ((x : A) → IsTrue (test x) → IsTrue (other x)) → (xs : List A) → IsTrue (list_any test xs) → IsTrue (list_any other xs)
any_so test other so [] passed = passed
any_so test other so (x ∷ xs) passed = elim (or_cases (test x) (list_any test xs) passed) [
  | inl here ↦ or_left _ _ (so x here)
  | inr later ↦ or_right _ _ (any_so test other so xs later)
]

pub map_more : {A B : Type 0} (f : A → B) (xs : List A) (x : A) → map f (xs ++ x ∷ []) ≡ map f xs ++ f x ∷ []
map_more f [] x = refl
map_more {A} {B} f (y ∷ xs) x = ap (λ (l : List B). f y ∷ l) (map_more f xs x)

-- ---- numbered lists

pub numbers_stay : {A : Type 0} (number : ℕ) (x : A) (first : ℕ) (lists : List (List A)) → length (with_entry_in number x first lists) ≡ length lists
numbers_stay number x first [] = refl
numbers_stay {A} number x first (xs ∷ lists) = cases (eqb first number) (numbers_stay number x (suc first) lists)
  where
    cases : (t : Bool) → length (with_entry_in number x (suc first) lists) ≡ length lists → length (if t then (xs ++ x ∷ []) ∷ lists else xs ∷ with_entry_in number x (suc first) lists) ≡ suc (length lists)
    cases true rest = refl
    cases false rest = ap suc rest

-- each passes a test, where the one does with the element more
pub each_with : {A : Type 0} (test : List A → Bool) (number : ℕ) (x : A) (first : ℕ) (lists : List (List A)) → IsTrue (list_all test lists) → IsTrue (test (numbered_in number first lists ++ x ∷ []))
    → IsTrue (list_all test (with_entry_in number x first lists))
each_with test number x first [] all its = refl
each_with test number x first (xs ∷ lists) all its = (let parts = and_parts (test xs) (list_all test lists) all in cases (eqb first number) parts.0 parts.1 its (each_with test number x (suc first) lists parts.1))
  where
    cases : (t : Bool) → IsTrue (test xs) → IsTrue (list_all test lists) → IsTrue (test ((if t then xs else numbered_in number (suc first) lists) ++ x ∷ []))
        → (IsTrue (test (numbered_in number (suc first) lists ++ x ∷ [])) → IsTrue (list_all test (with_entry_in number x (suc first) lists)))
        → IsTrue (list_all test (if t then (xs ++ x ∷ []) ∷ lists else xs ∷ with_entry_in number x (suc first) lists))
    cases true one all its rest = and_from _ _ its all
    cases false one all its rest = and_from _ _ one (rest its)

-- the same where each that passes does so with the element more
pub each_with_more : {A : Type 0} (test : List A → Bool) (number : ℕ) (x : A) (first : ℕ) (lists : List (List A)) → IsTrue (list_all test lists)
    → ((xs : List A) → In xs lists → IsTrue (test xs) → IsTrue (test (xs ++ x ∷ []))) → IsTrue (list_all test (with_entry_in number x first lists))
each_with_more test number x first [] all more = refl
each_with_more test number x first (xs ∷ lists) all more =
    let parts = and_parts (test xs) (list_all test lists) all in
    cases (eqb first number) parts.0 parts.1 (more xs (inl refl) parts.0) (each_with_more test number x (suc first) lists parts.1 (λ ys among is. more ys (inr among) is))
  where
    cases : (t : Bool) → IsTrue (test xs) → IsTrue (list_all test lists) → IsTrue (test (xs ++ x ∷ [])) → IsTrue (list_all test (with_entry_in number x (suc first) lists))
        → IsTrue (list_all test (if t then (xs ++ x ∷ []) ∷ lists else xs ∷ with_entry_in number x (suc first) lists))
    cases true one all its rest = and_from _ _ its all
    cases false one all its rest = and_from _ _ one rest

-- what is made of each element of each list, with the element more
pub maps_with : {A B : Type 0} (f : A → B) (number : ℕ) (x : A) (first : ℕ) (lists : List (List A)) → map (map f) (with_entry_in number x first lists) ≡ with_entry_in number (f x) first (map (map f) lists)
maps_with f number x first [] = refl
maps_with {A} {B} f number x first (xs ∷ lists) = cases (eqb first number) (maps_with f number x (suc first) lists)
  where
    cases : (t : Bool) → map (map f) (with_entry_in number x (suc first) lists) ≡ with_entry_in number (f x) (suc first) (map (map f) lists)
        → map (map f) (if t then (xs ++ x ∷ []) ∷ lists else xs ∷ with_entry_in number x (suc first) lists) ≡ (if t then (map f xs ++ f x ∷ []) ∷ map (map f) lists else map f xs ∷ with_entry_in number (f x) (suc first) (map (map f) lists))
    cases true rest = ap (λ (l : List B). l ∷ map (map f) lists) (map_more f xs x)
    cases false rest = ap (λ (l : List (List B)). map f xs ∷ l) rest
