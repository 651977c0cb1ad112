-- Reading a stored value: the row of its table, and then its limits in their order.
use Rattle.std.specs.Prelude.{ℕ, ◌+◌, nat_eq, Bool, List, [], ◌∷◌, length, Option, Some, None, Result, Ok, Err, if◌then◌else◌}
use Rattle.std.specs.Int.{w128, to_be_bytes}
use Rattle.std.specs.List.{starts_with}
use Rattle.aft_fields.specs.declared.fault.FieldFault.{FieldFault}
use Rattle.aft_fields.specs.declared.fault.FieldFault.TheVariants.{Tag}
use Rattle.aft_fields.specs.declared.table.Cell.{Cell}
use Rattle.aft_fields.specs.declared.table.Cell.TheVariants.{U64, U128, Text, Bytes, Texts}
use Rattle.aft_fields.specs.declared.table.Kind.{Kind}
use Rattle.aft_fields.specs.Reading.{row_of}
use Rattle.aft_id.specs.declared.txn_id.TxnId.{TxnId}
use Rattle.aft_records.specs.declared.fault.RecordFault.{RecordFault}
use Rattle.aft_records.specs.declared.fault.RecordFault.TheVariants.{Field, BadTime, BadKeys, BadKey, BadOrigin, BadReads, LongValue}
use Rattle.aft_records.specs.declared.stored.Commit.{Commit}
use Rattle.aft_records.specs.declared.stored.Record.{Record}
use Rattle.aft_records.specs.declared.stored.Version.{Version}
use Rattle.aft_records.specs.declared.stored.Marker.{Marker}
use Rattle.aft_records.specs.declared.stored.Marker.TheVariants.{Full, Done}
use Rattle.aft_records.specs.Gives.{◌>>=◌}
use Rattle.aft_records.specs.Limits.{is_time, is_key, is_key_count, is_origin, is_read_count, is_value_length}
use Rattle.aft_records.specs.ReadIds.{ids_of}
use Rattle.aft_records.specs.Rows.{version_tag, commit_tag, record_tag, full_tag, done_tag, version_kinds, commit_kinds, record_kinds, done_kinds}

-- ---- the layout

-- a row that was read, or the fault of its layout
abbrev pub laid_out : Result (List Cell) FieldFault → Result (List Cell) RecordFault
laid_out (Ok cells) = Ok cells
laid_out (Err f) = Err (Field f)

-- the cells of a table's row
abbrev pub cells_of : List ℕ → List Kind → List ℕ → Result (List Cell) RecordFault
cells_of tag kinds bytes = laid_out (row_of tag kinds bytes)

-- whether bytes begin with this tag
abbrev pub is_tagged : List ℕ → List ℕ → Bool
is_tagged tag bytes = starts_with nat_eq bytes tag

-- ---- the cells of a row, one after the other. A table's row has a cell of each kind, so that no fault comes here

-- a number of 64 bits
abbrev pub number_in : List Cell → Result (ℕ × List Cell) RecordFault
number_in (U64 n ∷ cells) = Ok (n, cells)
number_in cells = Err (Field Tag)

-- a number of 128 bits
abbrev pub wide_in : List Cell → Result (ℕ × List Cell) RecordFault
wide_in (U128 n ∷ cells) = Ok (n, cells)
wide_in cells = Err (Field Tag)

-- a text
abbrev pub text_in : List Cell → Result (List ℕ × List Cell) RecordFault
text_in (Text text ∷ cells) = Ok (text, cells)
text_in cells = Err (Field Tag)

-- bytes
abbrev pub bytes_in : List Cell → Result (List ℕ × List Cell) RecordFault
bytes_in (Bytes bytes ∷ cells) = Ok (bytes, cells)
bytes_in cells = Err (Field Tag)

-- texts
abbrev pub texts_in : List Cell → Result (List (List ℕ) × List Cell) RecordFault
texts_in (Texts texts ∷ cells) = Ok (texts, cells)
texts_in cells = Err (Field Tag)

-- an id: its time and its UUID
unfoldable pub id_in : List Cell → Result (TxnId × List Cell) RecordFault
id_in cells = do
  time ← number_in cells
  uuid ← wide_in time.1
  Ok (record { time = time.0; uuid = to_be_bytes w128 uuid.0 }, uuid.1)

-- ---- the limits

-- a time within its limit
abbrev pub checked_time : ℕ → Result Unit RecordFault
checked_time time = if is_time time then Ok tt else Err BadTime

-- keys within their limit, the first of this index
unfoldable pub checked_keys : ℕ → List (List ℕ) → Result Unit RecordFault
checked_keys index [] = Ok tt
checked_keys index (key ∷ keys) = if is_key key then checked_keys (index + 1) keys else Err (BadKey index)

-- a write set within its limits
unfoldable pub checked_set : List (List ℕ) → Result (List (List ℕ)) RecordFault
checked_set keys = do
  _ ← if is_key_count (length keys) then checked_keys 0 keys else Err BadKeys
  Ok keys

-- a key alone within its limits
abbrev pub checked_key : List ℕ → Result Unit RecordFault
checked_key key = if is_key key then Ok tt else Err (BadKey 0)

-- a value within its limit
abbrev pub checked_value : List ℕ → Result Unit RecordFault
checked_value value = if is_value_length (length value) then Ok tt else Err LongValue

-- an origin of so many reads within its limits
abbrev pub checked_origin : ℕ → ℕ → ℕ → Result Unit RecordFault
checked_origin node inc reads = if is_origin node inc reads then Ok tt else Err BadOrigin

-- the id that was found, or the fault
abbrev pub found_id : Option TxnId → Result TxnId RecordFault
found_id (Some id) = Ok id
found_id None = Err BadReads

-- the ids that were found, or the fault
abbrev pub found_ids : Option (List TxnId) → Result (List TxnId) RecordFault
found_ids (Some ids) = Ok ids
found_ids None = Err BadReads

-- the reads of a record, by their texts
abbrev pub checked_reads : List (List ℕ) → Result (List TxnId) RecordFault
checked_reads reads = if is_read_count (length reads) then found_ids (ids_of reads) else Err BadReads

-- ---- values by their cells

-- a commit within its limits
unfoldable pub checked_commit : TxnId → List (List ℕ) → Result Commit RecordFault
checked_commit id keys = do
  _ ← checked_time id.time
  set ← checked_set keys
  Ok (record { id = id; keys = set })

-- a commit
unfoldable pub commit_in : List Cell → Result Commit RecordFault
commit_in cells = do
  id ← id_in cells
  keys ← texts_in id.1
  checked_commit id.0 keys.0

-- a record within its limits
unfoldable pub checked_record : TxnId → List (List ℕ) → ℕ → ℕ → List (List ℕ) → Result Record RecordFault
checked_record id keys node inc reads = do
  commit ← checked_commit id keys
  _ ← checked_origin node inc (length reads)
  ids ← checked_reads reads
  Ok (record { commit = commit; origin = record { node = node; inc = inc; reads = ids } })

-- a record of the second format
unfoldable pub record_in : List Cell → Result Record RecordFault
record_in cells = do
  id ← id_in cells
  keys ← texts_in id.1
  node ← number_in keys.1
  inc ← number_in node.1
  reads ← texts_in inc.1
  checked_record id.0 keys.0 node.0 inc.0 reads.0

-- a version within its limits
unfoldable pub checked_version : TxnId → List ℕ → List ℕ → Result Version RecordFault
checked_version id key value = do
  _ ← checked_time id.time
  _ ← checked_key key
  _ ← checked_value value
  Ok (record { id = id; key = key; value = value })

-- a version
unfoldable pub version_in : List Cell → Result Version RecordFault
version_in cells = do
  id ← id_in cells
  key ← text_in id.1
  value ← bytes_in key.1
  checked_version id.0 key.0 value.0

-- a short marker's id
unfoldable pub done_in : List Cell → Result Marker RecordFault
done_in cells = do
  id ← id_in cells
  _ ← checked_time id.0.time
  Ok (Done id.0)

-- ---- values by their bytes

-- the commit whose record of the first format the bytes are, or the first fault
unfoldable pub first_commit_of : List ℕ → Result Commit RecordFault
first_commit_of bytes = do
  cells ← cells_of commit_tag commit_kinds bytes
  commit_in cells

-- the record of the second format that the bytes are, or the first fault
unfoldable pub record_of : List ℕ → Result Record RecordFault
record_of bytes = do
  cells ← cells_of record_tag record_kinds bytes
  record_in cells

-- the commit of a record of the second format, or the first fault
unfoldable pub second_commit_of : List ℕ → Result Commit RecordFault
second_commit_of bytes = do
  whole ← record_of bytes
  Ok whole.commit

-- the commit whose record the bytes are, in either format, or the first fault
unfoldable pub commit_of : List ℕ → Result Commit RecordFault
commit_of bytes = if is_tagged record_tag bytes then second_commit_of bytes else first_commit_of bytes

-- the version that the bytes are, or the first fault
unfoldable pub version_of : List ℕ → Result Version RecordFault
version_of bytes = do
  cells ← cells_of version_tag version_kinds bytes
  version_in cells

-- the full marker that the bytes are, or the first fault
unfoldable pub full_of : List ℕ → Result Marker RecordFault
full_of bytes = do
  cells ← cells_of full_tag commit_kinds bytes
  commit ← commit_in cells
  Ok (Full commit)

-- the short marker that the bytes are, or the first fault
unfoldable pub done_of : List ℕ → Result Marker RecordFault
done_of bytes = do
  cells ← cells_of done_tag done_kinds bytes
  done_in cells

-- the marker that the bytes are, or the first fault
unfoldable pub marker_of : List ℕ → Result Marker RecordFault
marker_of bytes = if is_tagged done_tag bytes then done_of bytes else full_of bytes
