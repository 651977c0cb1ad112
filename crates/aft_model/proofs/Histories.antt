-- Lemmas on lists and histories.
use Rattle.std.proofs.Common.{◌≡◌, Bool, true, false, ◌&&◌, not, List, [], ◌∷◌, ◌++◌, refl, sym, subst, ◌⊎◌, inl, inr, append_assoc, append-nil}
use Rattle.std.specs.Prelude.{IsTrue, IsFalse}
use Rattle.std.specs.List.{list_any, list_all, flat_map}
use Rattle.std.proofs.lemmas.Bool.{and_parts, and_from, or_cases, or_left, or_right, not-true, false≢true}
use Rattle.std.proofs.lemmas.List.Concat.{flat_map-append}
use Rattle.aft_model.specs.History.{each_after, followed}

-- an element of a list
abbrev pub In : {A : Type 0} → A → List A → Type 0
In x [] = ⊥
In x (y ∷ ys) = (x ≡ y) ⊎ In x ys

pub in_append : {A : Type 0} (x : A) (xs ys : List A) → In x (xs ++ ys) → In x xs ⊎ In x ys
in_append x [] ys among = inr among
in_append x (z ∷ xs) ys (inl here) = inl (inl here)
in_append x (z ∷ xs) ys (inr later) = elim (in_append x xs ys later) [ inl front ↦ inl (inr front) | inr back ↦ inr back ]

pub in_front : {A : Type 0} (x : A) (xs ys : List A) → In x xs → In x (xs ++ ys)
in_front x [] ys among = absurd among
in_front x (z ∷ xs) ys (inl here) = inl here
in_front x (z ∷ xs) ys (inr later) = inr (in_front x xs ys later)

pub in_back : {A : Type 0} (x : A) (xs ys : List A) → In x ys → In x (xs ++ ys)
in_back x [] ys among = among
in_back x (z ∷ xs) ys among = inr (in_back x xs ys among)

-- what a list's elements give is what one of them gives
pub in_flat_map : {A B : Type 0} (f : A → List B) (y : B) (xs : List A) → In y (flat_map f xs) → (x : A) × In x xs × In y (f x)
in_flat_map f y [] among = absurd among
in_flat_map f y (x ∷ xs) among =
    elim (in_append y (f x) (flat_map f xs) among) [
      | inl here ↦ (x, inl refl, here)
      | inr later ↦ (let found = in_flat_map f y xs later in (found.0, inr found.1, found.2))
    ]

-- what the elements give with one more is what they gave, or what the last gives
pub in_flat_map_snoc : {A B : Type 0} (f : A → List B) (y : B) (xs : List A) (x : A) → In y (flat_map f (xs ++ x ∷ [])) → In y (flat_map f xs) ⊎ In y (f x)
in_flat_map_snoc f y xs x among =
    let split : In y (flat_map f xs ++ flat_map f (x ∷ [])) = rw flat_map-append at among in
    elim (in_append y (flat_map f xs) (flat_map f (x ∷ [])) split) [
      | inl before ↦ inl before
      | inr last ↦ elim (in_append y (f x) [] last) [ inl here ↦ inr here | inr nowhere ↦ absurd nowhere ]
    ]

-- an element that passes a test, where one does
pub any_found : {A : Type 0} (test : A → Bool) (xs : List A) → IsTrue (list_any test xs) → (x : A) × In x xs × IsTrue (test x)
any_found test [] passed = absurd (false≢true passed)
any_found test (x ∷ xs) passed =
    elim (or_cases (test x) (list_any test xs) passed) [
      | inl here ↦ (x, inl refl, here)
      | inr later ↦ (let found = any_found test xs later in (found.0, inr found.1, found.2))
    ]

pub any_from : {A : Type 0} (test : A → Bool) (x : A) (xs : List A) → In x xs → IsTrue (test x) → IsTrue (list_any test xs)
any_from test x [] among passed = absurd among
any_from test x (y ∷ ys) (inl here) passed = or_left _ _ (subst (λ z. IsTrue (test z)) here passed)
any_from test x (y ∷ ys) (inr later) passed = or_right _ _ (any_from test x ys later passed)

pub all_at : {A : Type 0} (test : A → Bool) (x : A) (xs : List A) → In x xs → IsTrue (list_all test xs) → IsTrue (test x)
all_at test x [] among passed = absurd among
all_at test x (y ∷ ys) (inl here) passed =
    let parts = and_parts (test y) (list_all test ys) passed in subst (λ z. IsTrue (test z)) (sym here) parts.0
all_at test x (y ∷ ys) (inr later) passed = let parts = and_parts (test y) (list_all test ys) passed in all_at test x ys later parts.1

pub all_append : {A : Type 0} (test : A → Bool) (xs ys : List A) → IsTrue (list_all test (xs ++ ys)) → IsTrue (list_all test xs) × IsTrue (list_all test ys)
all_append test [] ys passed = (refl, passed)
all_append test (x ∷ xs) ys passed =
    let parts = and_parts (test x) (list_all test (xs ++ ys)) passed in
    let rest = all_append test xs ys parts.1 in
    (and_from _ _ parts.0 rest.0, rest.1)

-- with one more entry: a rest that has none of something was so before, and the entry is none of it, or it is the first of its kind
pub followed_snoc : {A : Type 0} (first bad : A → Bool) (xs : List A) (x : A) → IsTrue (followed first (list_all (λ y. not (bad y))) (xs ++ x ∷ []))
    → (IsTrue (followed first (list_all (λ y. not (bad y))) xs) × IsFalse (bad x)) ⊎ IsTrue (first x)
followed_snoc first bad [] x passed =
    elim (or_cases (first x && true) false passed) [
      | inl here ↦ inr (and_parts (first x) true here).0
      | inr nothing ↦ absurd (false≢true nothing)
    ]
followed_snoc {A} first bad (y ∷ ys) x passed =
    let good : A → Bool = λ z. not (bad z) in
    elim (or_cases (first y && list_all good (ys ++ x ∷ [])) (followed first (list_all good) (ys ++ x ∷ [])) passed) [
      | inl here ↦ (let parts = and_parts (first y) (list_all good (ys ++ x ∷ [])) here in
          let split = all_append good ys (x ∷ []) parts.1 in
          let last = and_parts (good x) true split.1 in
          inl (or_left _ _ (and_from _ _ parts.0 split.0), not-true (bad x) last.0))
      | inr later ↦ elim (followed_snoc first bad ys x later) [ inl rest ↦ inl (or_right _ _ rest.0, rest.1) | inr starts ↦ inr starts ]
    ]

-- each entry of a longer history passes where each of the history does, and the last one behind it
pub each_after_snoc : {A : Type 0} (rule : List A → A → Bool) (before xs : List A) (x : A) → IsTrue (each_after rule before (xs ++ x ∷ []))
    → IsTrue (each_after rule before xs) × IsTrue (rule (before ++ xs) x)
each_after_snoc rule before [] x passed =
    let parts = and_parts (rule before x) true passed in
    (refl, subst (λ h. IsTrue (rule h x)) (sym (append-nil before)) parts.0)
each_after_snoc rule before (y ∷ ys) x passed =
    let parts = and_parts (rule before y) (each_after rule (before ++ y ∷ []) (ys ++ x ∷ [])) passed in
    let rest = each_after_snoc rule (before ++ y ∷ []) ys x parts.1 in
    (and_from _ _ parts.0 rest.0, subst (λ h. IsTrue (rule h x)) (append_assoc before (y ∷ []) ys) rest.1)

-- a rule that each entry of a history and of what follows it passes
pub each_after_split : {A : Type 0} (rule : List A → A → Bool) (before xs ys : List A) → IsTrue (each_after rule before (xs ++ ys))
    → IsTrue (each_after rule before xs) × IsTrue (each_after rule (before ++ xs) ys)
each_after_split rule before [] ys passed = (refl, subst (λ h. IsTrue (each_after rule h ys)) (sym (append-nil before)) passed)
each_after_split rule before (x ∷ xs) ys passed =
    let parts = and_parts (rule before x) (each_after rule (before ++ x ∷ []) (xs ++ ys)) passed in
    let rest = each_after_split rule (before ++ x ∷ []) xs ys parts.1 in
    (and_from _ _ parts.0 rest.0, subst (λ h. IsTrue (each_after rule h ys)) (append_assoc before (x ∷ []) xs) rest.1)

each_after_more : {A : Type 0} (rule : List A → A → Bool) (before xs : List A) (x : A) → IsTrue (each_after rule before xs) → IsTrue (rule (before ++ xs) x)
    → IsTrue (each_after rule before (xs ++ x ∷ []))
each_after_more rule before [] x passed last = and_from _ _ (subst (λ h. IsTrue (rule h x)) (append-nil before) last) refl
each_after_more rule before (y ∷ ys) x passed last =
    let parts = and_parts (rule before y) (each_after rule (before ++ y ∷ []) ys) passed in
    and_from _ _ parts.0 (each_after_more rule (before ++ y ∷ []) ys x parts.1 (subst (λ h. IsTrue (rule h x)) (sym (append_assoc before (y ∷ []) ys)) last))

-- what each entry that passes a rule keeps, a longer history keeps
pub each_after_kept : {A : Type 0} (rule : List A → A → Bool) (P : List A → Type 0)
    → ((history : List A) (x : A) → IsTrue (each_after rule [] history) → IsTrue (rule history x) → P history → P (history ++ x ∷ []))
    → (history more : List A) → IsTrue (each_after rule [] (history ++ more)) → P history → P (history ++ more)
each_after_kept {A} rule P step history more passed holds = (let both = each_after_split rule [] history more passed in go history more both.0 both.1 holds)
  where
    go : (before xs : List A) → IsTrue (each_after rule [] before) → IsTrue (each_after rule before xs) → P before → P (before ++ xs)
    go before [] sofar rest holds = subst P (sym (append-nil before)) holds
    go before (x ∷ xs) sofar rest holds =
        let parts = and_parts (rule before x) (each_after rule (before ++ x ∷ []) xs) rest in
        subst P (append_assoc before (x ∷ []) xs)
        (go (before ++ x ∷ []) xs (each_after_more rule [] before x sofar parts.0) parts.1 (step before x sofar parts.0 holds))
