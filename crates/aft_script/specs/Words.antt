-- The words of a text.
use Rattle.std.specs.Prelude.{Bool, List, length, not, ℕ, ◌==◌, ◌||◌}
use Rattle.std.specs.List.{filter, slice_split}

-- whether a byte stands between words: a space or an LF
abbrev pub is_gap : ℕ → Bool
is_gap b = b == 32 || b == 10

-- the words of a text: what stands between its gaps
abbrev pub words_of : List ℕ → List (List ℕ)
words_of text = filter (λ word. not (length word == 0)) (slice_split is_gap text)
