-- The spelling of a row: its table's tag, and then each cell by its kind.
use Rattle.std.specs.Prelude.{ℕ, List, ◌++◌, length}
use Rattle.std.specs.List.{flat_map}
use Rattle.std.specs.Int.{w32, w64, w128, to_be_bytes}
use Rattle.aft_fields.specs.declared.table.Cell.{Cell}
use Rattle.aft_fields.specs.declared.table.Cell.TheVariants.{U64, U128, Text, Bytes, Texts}

-- a length of four bytes, and that many bytes
abbrev pub counted : List ℕ → List ℕ
counted bytes = to_be_bytes w32 (length bytes) ++ bytes

-- the bytes of a cell
abbrev pub cell_bytes : Cell → List ℕ
cell_bytes (U64 n) = to_be_bytes w64 n
cell_bytes (U128 n) = to_be_bytes w128 n
cell_bytes (Text text) = counted text
cell_bytes (Bytes bytes) = counted bytes
cell_bytes (Texts texts) = to_be_bytes w32 (length texts) ++ flat_map counted texts

-- the bytes of a row: its table's tag and its cells, with nothing between or after
abbrev pub row_bytes : List ℕ → List Cell → List ℕ
row_bytes tag cells = tag ++ flat_map cell_bytes cells
