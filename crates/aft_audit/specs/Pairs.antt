-- What is read of pairs, as values.
use Rattle.std.specs.Prelude.{Bool, Err, List, None, Ok, Option, Result, Some, [], false, length, slice_index_or, ℕ, ◌∷◌, ◌≡◌, ◌<◌}
use Rattle.std.specs.declared.cmp.Ordering.TheVariants.{Equal}
use Rattle.std.specs.Ordering.{nat_cmp}
use Rattle.std.specs.Cmp.Lexicographic.{slice_cmp}
use Rattle.aft_records.specs.declared.fault.RecordFault.{RecordFault}
use Rattle.aft_keeper.specs.declared.keeper.Pair.{Pair}

-- a value, if there is one, as a list
abbrev pub as_list : {A : Type 0} → Option A → List A
as_list None = []
as_list (Some x) = x ∷ []

-- whether there is a value that passes a test
abbrev pub passes : {A : Type 0} → (A → Bool) → Option A → Bool
passes test None = false
passes test (Some x) = test x

-- a pair, by its name and bytes
abbrev pub pair_of : List ℕ → List ℕ → Pair
pair_of name bytes = record { name = name; bytes = bytes }

-- what was read, if it has a reading
abbrev pub Reads : {A : Type 0} → Result A RecordFault → Option A → Type 0
Reads read (Some x) = read ≡ Ok x
Reads read None = (fault : RecordFault) × (read ≡ Err fault)

-- whether the pair at a place has this name
pub record IsNamedAt (name : List ℕ) (pairs : List Pair) (place : ℕ) : Type 0 where
  pub within : place < length pairs
  pub named : (d : Pair) → slice_cmp nat_cmp (slice_index_or pairs place d).name name ≡ Equal
