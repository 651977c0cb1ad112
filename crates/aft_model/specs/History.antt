-- Words on histories: lists of entries, oldest first.
use Rattle.std.specs.Prelude.{Bool, List, None, Option, Some, [], drop, false, if◌then◌else◌, suc, true, ℕ, ◌&&◌, ◌++◌, ◌||◌, ◌∷◌}

-- whether each entry passes the rule, which reads it against the entries before it
abbrev pub each_after : {A : Type 0} → (List A → A → Bool) → List A → List A → Bool
each_after rule before [] = true
each_after rule before (entry ∷ entries) = rule before entry && each_after rule (before ++ entry ∷ []) entries

-- whether a list passes a test, and stays so with each element of another that is added
abbrev pub each_prefix : {A : Type 0} → (List A → Bool) → List A → List A → Bool
each_prefix test before [] = test before
each_prefix test before (x ∷ xs) = test before && each_prefix test (before ++ x ∷ []) xs

-- whether some entry passes the first test, and what follows it the second
abbrev pub followed : {A : Type 0} → (A → Bool) → (List A → Bool) → List A → Bool
followed first rest [] = false
followed first rest (entry ∷ entries) = first entry && rest entries || followed first rest entries

-- the first element
abbrev pub first_of : {A : Type 0} → List A → Option A
first_of [] = None
first_of (x ∷ xs) = Some x

-- the element at a place, counted from 0
abbrev pub at_place : {A : Type 0} → ℕ → List A → Option A
at_place place xs = first_of (drop place xs)

-- the place of the last element that passes a test, where these stand from a place on, or else what is known of those before them
abbrev pub last_place_from : {A : Type 0} → (A → Bool) → ℕ → Option ℕ → List A → Option ℕ
last_place_from test place before [] = before
last_place_from test place before (x ∷ xs) = last_place_from test (suc place) (if test x then Some place else before) xs

-- the place of the last element that passes a test
abbrev pub last_place : {A : Type 0} → (A → Bool) → List A → Option ℕ
last_place test xs = last_place_from test 0 None xs
