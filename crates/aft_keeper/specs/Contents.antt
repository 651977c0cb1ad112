-- What a store holds: pairs of name and bytes, ascending by name.
use Rattle.std.specs.Prelude.{ℕ, ◌≢◌, ◌≤◌, Bool, not, ◌&&◌, List, [], ◌∷◌, length, take, filter, Option, None, Some, All, IsTrue, if◌then◌else◌}
use Rattle.std.specs.List.{starts_with}
use Rattle.std.specs.Prelude.{nat_eq}
use Rattle.std.specs.Ordering.{is_lt, nat_cmp}
use Rattle.std.specs.Cmp.Lexicographic.{slice_cmp}
use Rattle.std.specs.Str.{bytes_eq}
use Rattle.std.specs.Coded.{Coded-set, coded_bool, ×_prop, Π_prop, Unit-prop}
use Rattle.aft_keeper.specs.declared.keeper.Pair.{Pair}

-- names are ordered byte by byte
abbrev pub name_lt : List ℕ → List ℕ → Bool
name_lt a b = is_lt (slice_cmp nat_cmp a b)

-- each name is greater than the one before it
abbrev pub Ascends : List Pair → Type 0
Ascends [] = Unit {0}
Ascends (p ∷ []) = Unit {0}
Ascends (p ∷ q ∷ pairs) = IsTrue (name_lt p.name q.name) × Ascends (q ∷ pairs)

-- what a store may hold: each name once, in order, none empty
abbrev pub IsContents : List Pair → Type 0
IsContents pairs = Ascends pairs × All (λ p. p.name ≢ []) pairs

-- what a store may hold is so in one way
pub IsContents-prop : (pairs : List Pair) → IsProp (IsContents pairs)
IsContents-prop pairs = ×_prop (Ascends-prop pairs) (Π_prop (λ k. Π_prop (λ d. Π_prop (λ within. Π_prop (λ unnamed. λ x y. absurd x)))))
  where
    Ascends-prop : (pairs : List Pair) → IsProp (Ascends pairs)
    Ascends-prop [] = Unit-prop
    Ascends-prop (p ∷ []) = Unit-prop
    Ascends-prop (p ∷ q ∷ pairs) = ×_prop (Coded-set coded_bool _ _) (Ascends-prop (q ∷ pairs))

-- the bytes under a name
abbrev pub bytes_at : List ℕ → List Pair → Option (List ℕ)
bytes_at name [] = None
bytes_at name (p ∷ pairs) = if bytes_eq name p.name then Some p.bytes else bytes_at name pairs

-- the pairs with the bytes under a name set
abbrev pub with_pair : List ℕ → List ℕ → List Pair → List Pair
with_pair name bytes [] = record { name = name; bytes = bytes } ∷ []
with_pair name bytes (p ∷ pairs) =
    if bytes_eq name p.name then record { name = name; bytes = bytes } ∷ pairs
    else if name_lt name p.name then record { name = name; bytes = bytes } ∷ p ∷ pairs
    else p ∷ with_pair name bytes pairs

-- the pairs without a name
abbrev pub without : List ℕ → List Pair → List Pair
without name pairs = filter (λ p. not (bytes_eq name p.name)) pairs

-- whether a scan with this prefix and this start shows a name
abbrev pub is_scanned : List ℕ → List ℕ → List ℕ → Bool
is_scanned prefix after name = starts_with nat_eq name prefix && name_lt after name

-- the first pairs, at most limit, whose names begin with the prefix and are greater than after
abbrev pub page_of : List ℕ → List ℕ → ℕ → List Pair → List Pair
page_of prefix after limit pairs = take limit (filter (λ p. is_scanned prefix after p.name) pairs)

-- the shape of a page, whatever the store holds
pub record IsPage (prefix after : List ℕ) (limit : ℕ) (page : List Pair) : Type 0 where
  pub scanned : All (λ p. IsTrue (is_scanned prefix after p.name)) page
  pub ascends : Ascends page
  pub few : length page ≤ limit
