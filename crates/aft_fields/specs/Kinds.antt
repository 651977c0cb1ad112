-- Which cells are of a kind, and which rows are of a table.
use Rattle.std.specs.Prelude.{ℕ, ◌^◌, Bool, true, false, ◌&&◌, nat_lt, List, [], ◌∷◌, length}
use Rattle.std.specs.List.{list_all}
use Rattle.std.specs.Str.{is_utf8}
use Rattle.aft_fields.specs.declared.table.Kind.{Kind}
use Rattle.aft_fields.specs.declared.table.Kind.TheVariants as kinds
use Rattle.aft_fields.specs.declared.table.Cell.{Cell}
use Rattle.aft_fields.specs.declared.table.Cell.TheVariants.{U64, U128, Text, Bytes, Texts}
use Rattle.aft_fields.specs.Order.{ascend}

-- whether so many can be counted in four bytes
abbrev pub is_count : ℕ → Bool
is_count n = nat_lt n (2 ^ 32)

-- whether bytes are a text that has a spelling
abbrev pub is_text : List ℕ → Bool
is_text text = is_utf8 text && is_count (length text)

-- whether texts have a spelling together: they ascend strictly
abbrev pub are_texts : List (List ℕ) → Bool
are_texts texts = is_count (length texts) && list_all is_text texts && ascend texts

-- whether a cell has a spelling
abbrev pub has_spelling : Cell → Bool
has_spelling (U64 n) = nat_lt n (2 ^ 64)
has_spelling (U128 n) = nat_lt n (2 ^ 128)
has_spelling (Text text) = is_text text
has_spelling (Bytes bytes) = is_count (length bytes)
has_spelling (Texts texts) = are_texts texts

-- whether a cell is of this kind
abbrev pub is_kind : Kind → Cell → Bool
is_kind kinds.U64 (U64 n) = true
is_kind kinds.U128 (U128 n) = true
is_kind kinds.Text (Text text) = true
is_kind kinds.Bytes (Bytes bytes) = true
is_kind kinds.Texts (Texts texts) = true
is_kind kind cell = false

-- whether cells are of these kinds, one of each in this order, and have a spelling
abbrev pub are_of : List Kind → List Cell → Bool
are_of [] [] = true
are_of (kind ∷ kinds) (cell ∷ cells) = is_kind kind cell && has_spelling cell && are_of kinds cells
are_of kinds cells = false
