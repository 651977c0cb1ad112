-- Words behind others.
use Rattle.std.specs.Prelude.{List, ℕ, ◌∷◌}
use Rattle.std.specs.List.{flat_map}

-- words, each behind a space
abbrev pub behind : List (List ℕ) → List ℕ
behind words = flat_map (λ word. 32 ∷ word) words
