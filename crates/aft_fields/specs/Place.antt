-- Where a reader stands in a row.
use Rattle.std.specs.Prelude.{ℕ, List}

-- an offset from the row's start, and the bytes from there on
pub record Place : Type 0 where
  pub at : ℕ
  pub bytes : List ℕ

-- the start of a row
abbrev pub start : List ℕ → Place
start bytes = record { at = 0; bytes = bytes }
