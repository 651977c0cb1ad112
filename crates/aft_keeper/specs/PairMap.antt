-- Pairs in the order in which they came, and an index from names to their places.
use Rattle.std.specs.Prelude.{ℕ, ◌≡◌, ◌<◌, List, [], length, map, slice_index_or, Option, Some}
use Rattle.std.specs.Ordering.{nat_cmp}
use Rattle.std.specs.Cmp.Lexicographic.{slice_cmp}
use Rattle.std.specs.List.Sorted.{IsStrictlySortedBy}
use Rattle.std.specs.Map.{lookup, keys_of}
use Rattle.std.specs.BTreeMap.{is_at}
use Rattle.std.specs.declared.string.String.{String}
use Rattle.std.specs.String.{string_bytes, string_cmp}
use Rattle.aft_keeper.specs.Contents.{IsContents}
use Rattle.aft_keeper.specs.declared.keeper.Pair.{Pair}

-- the pair at a place, or an empty one
abbrev pub pair_at : List Pair → ℕ → Pair
pair_at pairs place = slice_index_or pairs place (record { name = []; bytes = [] })

-- each name of the index stands at its place
pub record Stands (pairs : List Pair) (name : List ℕ) (place : ℕ) : Type 0 where
  pub within : place < length pairs
  pub named : (pair_at pairs place).name ≡ name

module _ {Z : Type 0} where
  -- the place of a name, by the index
  abbrev pub place_of : List ℕ → List (String Z × ℕ) → Option ℕ
  place_of name places = lookup (is_at (λ k. slice_cmp nat_cmp name (string_bytes k))) places

  -- a name of the index with the bytes at its place
  abbrev pub indexed_pair : List Pair → String Z × ℕ → Pair
  indexed_pair pairs entry = record { name = string_bytes entry.0; bytes = (pair_at pairs entry.1).bytes }

  -- the pairs in the order of the index
  abbrev pub indexed : List Pair → List (String Z × ℕ) → List Pair
  indexed pairs places = map (indexed_pair pairs) places

  -- the index has each pair's name once, with its place
  pub record IsIndexed (pairs : List Pair) (places : List (String Z × ℕ)) : Type 0 where
    pub ordered : IsStrictlySortedBy string_cmp (keys_of places)
    pub found : (name : List ℕ) (place : ℕ) → place_of name places ≡ Some place → Stands pairs name place
    pub placed : (place : ℕ) → place < length pairs → place_of (pair_at pairs place).name places ≡ Some place
    pub as_many : length pairs ≡ length places
    pub in_order : IsContents (indexed pairs places)
