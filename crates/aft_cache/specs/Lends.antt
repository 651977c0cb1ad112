-- What a cache ends as, once a value that it lent is given back.
use Rattle.std.specs.Prelude.{◌≡◌, ⊤}
use Rattle.std.specs.Borrow.{Fml, MutBor, follows_so}
use mathlib.Core.Option.{none}
use Rattle.aft_cache.specs.Values.{Values, with_used}
use Rattle.aft_cache.specs.declared.spot.Spot.{Spot}
use Rattle.aft_cache.specs.contracts.data_cache.DataCache.{the_row}

-- a cache ends with the value of this key and id in front, if it is kept
abbrev pub ends_used : MutBor Values → Spot → Fml
ends_used cache at = follows_so the_row the_row cache.ghost_name none (λ _ _. ⊤) (λ n. n ≡ record cache.now { kept = with_used cache.now.capacity at.key at.id cache.now.kept })
