-- How the texts of a record's reads are read as ids.
use Rattle.std.specs.Prelude.{ℕ, List, [], ◌∷◌, Option, Some, None, if◌then◌else◌}
use Rattle.std.specs.List.{list_any}
use Rattle.aft_id.specs.declared.txn_id.TxnId.{TxnId}
use Rattle.aft_records.specs.NameReading.{◌>>=◌, is_upper, id_of}

-- the id that a text is, with its digits in lower case and its time within the limit
abbrev pub read_id_of : List ℕ → Option TxnId
read_id_of text = if list_any is_upper text then None else id_of text

-- the ids that texts are
unfoldable pub ids_of : List (List ℕ) → Option (List TxnId)
ids_of [] = Some []
ids_of (text ∷ texts) = do
  id ← read_id_of text
  ids ← ids_of texts
  Some (id ∷ ids)
