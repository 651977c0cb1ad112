-- Elements of lists, and tests of all of them, of filters and of maps.
use Rattle.std.proofs.Common.{◌≡◌, Bool, true, false, List, [], ◌∷◌, ◌++◌, refl, sym, ap, subst, ◌∙◌, ◌⊎◌, inl, inr}
use Rattle.std.specs.Prelude.{IsTrue, IsFalse, filter, map, if◌then◌else◌}
use Rattle.std.specs.List.{list_any, list_all, fold}
use Rattle.std.proofs.lemmas.Bool.{and_from, true≢false, false_from_ne_true}
use Rattle.aft_model.proofs.Histories.{In, in_append, any_found, any_from}

-- ---- tests

pub all_from : {A : Type 0} (test : A → Bool) (xs : List A) → ((x : A) → In x xs → IsTrue (test x)) → IsTrue (list_all test xs)
all_from test [] each = refl
all_from test (x ∷ xs) each = and_from _ _ (each x (inl refl)) (all_from test xs (λ y among. each y (inr among)))

-- where none passes, an element doesn't
pub none_at : {A : Type 0} (test : A → Bool) (x : A) (xs : List A) → In x xs → IsFalse (list_any test xs) → IsTrue (test x) → ⊥
none_at test x xs among none passed = true≢false (sym (any_from test x xs among passed) ∙ none)

pub in_snoc : {A : Type 0} (x : A) (xs : List A) (y : A) → In x (xs ++ y ∷ []) → In x xs ⊎ (x ≡ y)
in_snoc x xs y among = elim (in_append x xs (y ∷ []) among) [ inl before ↦ inl before | inr last ↦ elim last [ inl is ↦ inr is | inr nowhere ↦ absurd nowhere ] ]

pub none_snoc : {A : Type 0} (test : A → Bool) (xs : List A) (x : A) → IsFalse (list_any test xs) → IsFalse (test x) → IsFalse (list_any test (xs ++ x ∷ []))
none_snoc test xs x none last =
    false_from_ne_true _ (λ passed.
    let found = any_found test (xs ++ x ∷ []) passed in
    elim (in_snoc found.0 xs x found.1) [ inl before ↦ none_at test found.0 xs before none found.2 | inr is ↦ true≢false (sym found.2 ∙ ap test is ∙ last) ])

-- ---- filters and maps

pub in_filter : {A : Type 0} (test : A → Bool) (x : A) (xs : List A) → In x (filter test xs) → In x xs × IsTrue (test x)
in_filter test x [] among = absurd among
in_filter {A} test x (y ∷ ys) among = cases (in_filter test x ys) (test y) refl among
  where
    cases : (In x (filter test ys) → In x ys × IsTrue (test x)) → (t : Bool) → test y ≡ t → In x (if t then y ∷ filter test ys else filter test ys) → In x (y ∷ ys) × IsTrue (test x)
    cases rest true passed (inl here) = (inl here, subst (λ z. IsTrue (test z)) (sym here) passed)
    cases rest true passed (inr later) = let found = rest later in (inr found.0, found.1)
    cases rest false failed later = let found = rest later in (inr found.0, found.1)

pub filter_in : {A : Type 0} (test : A → Bool) (x : A) (xs : List A) → In x xs → IsTrue (test x) → In x (filter test xs)
filter_in test x [] among passed = absurd among
filter_in {A} test x (y ∷ ys) among passed = cases (filter_in test x ys) (test y) refl among
  where
    cases : (In x ys → IsTrue (test x) → In x (filter test ys)) → (t : Bool) → test y ≡ t → In x (y ∷ ys) → In x (if t then y ∷ filter test ys else filter test ys)
    cases rest true it (inl here) = inl here
    cases rest true it (inr later) = inr (rest later passed)
    cases rest false it (inl here) = absurd (true≢false (sym passed ∙ ap test here ∙ it))
    cases rest false it (inr later) = rest later passed

pub in_map : {A B : Type 0} (f : A → B) (y : B) (xs : List A) → In y (map f xs) → (x : A) × In x xs × (y ≡ f x)
in_map f y [] among = absurd among
in_map f y (x ∷ xs) (inl here) = (x, inl refl, here)
in_map f y (x ∷ xs) (inr later) = let found = in_map f y xs later in (found.0, inr found.1, found.2)

pub map_in : {A B : Type 0} (f : A → B) (x : A) (xs : List A) → In x xs → In (f x) (map f xs)
map_in f x [] among = absurd among
map_in f x (y ∷ ys) (inl here) = inl (ap f here)
map_in f x (y ∷ ys) (inr later) = inr (map_in f x ys later)

-- ---- folds

-- what each step of a fold keeps, the fold keeps
pub fold_kept : {A B : Type 0} (f : B → A → B) (P : B → Type 0) → ((b : B) (x : A) → P b → P (f b x)) → (b : B) (xs : List A) → P b → P (fold f b xs)
fold_kept f P step b [] holds = holds
fold_kept f P step b (x ∷ xs) holds = fold_kept f P step (f b x) xs (step b x holds)
