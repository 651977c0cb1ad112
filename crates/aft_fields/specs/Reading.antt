-- Reading a row from left to right, with the first fault that is met. Each part gives what it read, and the place after it.
use Rattle.std.specs.Prelude.{ℕ, zero, suc, ◌+◌, ◌==◌, nat_lt, nat_eq, List, [], ◌∷◌, length, take, drop, Option, Some, None, Result, Ok, Err, if◌then◌else◌}
use Rattle.std.specs.Int.{Width, w32, w64, w128, byte_len, from_be_bytes}
use Rattle.std.specs.Str.{is_utf8}
use Rattle.std.specs.Cmp.Lexicographic.{pointwise}
use Rattle.aft_fields.specs.declared.fault.FieldFault.{FieldFault}
use Rattle.aft_fields.specs.declared.fault.FieldFault.TheVariants.{Short, Tag, NotUtf8, Unsorted, Spare}
use Rattle.aft_fields.specs.declared.table.Kind.{Kind}
use Rattle.aft_fields.specs.declared.table.Kind.TheVariants as kinds
use Rattle.aft_fields.specs.declared.table.Cell.{Cell}
use Rattle.aft_fields.specs.declared.table.Cell.TheVariants.{U64, U128, Text, Bytes, Texts}
use Rattle.aft_fields.specs.Gives.{◌>>=◌}
use Rattle.aft_fields.specs.Order.{follows}
use Rattle.aft_fields.specs.Place.{Place, start}

-- a part of n bytes
abbrev pub part_at : ℕ → Place → Result (List ℕ × Place) FieldFault
part_at n place = if nat_lt (length place.bytes) n then Err (Short place.at) else Ok (take n place.bytes, record { at = place.at + n; bytes = drop n place.bytes })

-- a number of this width
unfoldable pub number_at : Width → Place → Result (ℕ × Place) FieldFault
number_at w place = do
  bytes ← part_at (byte_len w) place
  Ok (from_be_bytes w bytes.0, bytes.1)

-- bytes behind their length
unfoldable pub bytes_at : Place → Result (List ℕ × Place) FieldFault
bytes_at place = do
  n ← number_at w32 place
  part_at n.0 n.1

-- a text of this field
unfoldable pub text_at : ℕ → Place → Result (List ℕ × Place) FieldFault
text_at field place = do
  text ← bytes_at place
  if is_utf8 text.0 then Ok text else Err (NotUtf8 field)

-- so many texts of this field, the first of them after the one before it, if any
unfoldable pub texts_after : ℕ → ℕ → Option (List ℕ) → Place → Result (List (List ℕ) × Place) FieldFault
texts_after field zero before place = Ok ([], place)
texts_after field (suc n) before place = do
  text ← text_at field place
  texts ← if follows before text.0 then texts_after field n (Some text.0) text.1 else Err (Unsorted field)
  Ok (text.0 ∷ texts.0, texts.1)

-- texts of this field behind their number
unfoldable pub texts_at : ℕ → Place → Result (List (List ℕ) × Place) FieldFault
texts_at field place = do
  n ← number_at w32 place
  texts_after field n.0 None n.1

-- what was read, as a cell
abbrev pub as_cell : {A : Type 0} → (A → Cell) → Result (A × Place) FieldFault → Result (Cell × Place) FieldFault
as_cell make read = read >>= λ x. Ok (make x.0, x.1)

-- a cell of this kind, in this field
unfoldable pub cell_at : Kind → ℕ → Place → Result (Cell × Place) FieldFault
cell_at kinds.U64 field place = as_cell U64 (number_at w64 place)
cell_at kinds.U128 field place = as_cell U128 (number_at w128 place)
cell_at kinds.Text field place = as_cell Text (text_at field place)
cell_at kinds.Bytes field place = as_cell Bytes (bytes_at place)
cell_at kinds.Texts field place = as_cell Texts (texts_at field place)

-- cells of these kinds, the first of them in this field
unfoldable pub cells_at : ℕ → List Kind → Place → Result (List Cell × Place) FieldFault
cells_at field [] place = Ok ([], place)
cells_at field (kind ∷ kinds) place = do
  cell ← cell_at kind field place
  cells ← cells_at (field + 1) kinds cell.1
  Ok (cell.0 ∷ cells.0, cells.1)

-- the place after this tag
unfoldable pub tag_at : List ℕ → Place → Result Place FieldFault
tag_at tag place = do
  found ← part_at 3 place
  if pointwise nat_eq found.0 tag then Ok found.1 else Err Tag

-- the end of a row
abbrev pub end_at : Place → Result Unit FieldFault
end_at place = if length place.bytes == 0 then Ok tt else Err (Spare place.at)

-- the row of a table that the bytes are, or the first fault
unfoldable pub row_of : List ℕ → List Kind → List ℕ → Result (List Cell) FieldFault
row_of tag kinds bytes = do
  place ← tag_at tag (start bytes)
  cells ← cells_at 0 kinds place
  _ ← end_at cells.1
  Ok cells.0
