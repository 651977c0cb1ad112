-- The strict order of texts by their bytes.
use Rattle.std.specs.Prelude.{ℕ, Bool, true, ◌&&◌, List, [], ◌∷◌, Option, Some, None}
use Rattle.std.specs.Ordering.{is_lt, nat_cmp}
use Rattle.std.specs.Cmp.Lexicographic.{slice_cmp}

-- whether a text may follow the one before it, if any: it is greater in byte order
abbrev pub follows : Option (List ℕ) → List ℕ → Bool
follows None text = true
follows (Some before) text = is_lt (slice_cmp nat_cmp before text)

-- whether texts ascend strictly from the one before them, if any
abbrev pub ascend_after : Option (List ℕ) → List (List ℕ) → Bool
ascend_after before [] = true
ascend_after before (text ∷ texts) = follows before text && ascend_after (Some text) texts

-- whether texts ascend strictly
abbrev pub ascend : List (List ℕ) → Bool
ascend texts = ascend_after None texts
