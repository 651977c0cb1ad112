-- Where a name stands beside the last pair of a page.
use Rattle.std.specs.Prelude.{ℕ, Bool, true, List, Option, Some, None}
use Rattle.aft_keeper.specs.declared.keeper.Pair.{Pair}
use Rattle.aft_keeper.specs.Contents.{name_lt}

-- whether a name is above that of the last pair, if there is one
abbrev pub is_past : List ℕ → Option Pair → Bool
is_past name None = true
is_past name (Some last) = name_lt last.name name
