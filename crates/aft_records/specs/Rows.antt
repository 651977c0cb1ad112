-- The stored tables, and the row of each value.
use Rattle.std.specs.Prelude.{ℕ, List, [], ◌∷◌, map, codes}
use Rattle.aft_fields.specs.declared.table.Cell.{Cell}
use Rattle.aft_fields.specs.declared.table.Cell.TheVariants.{U64, U128, Text, Bytes, Texts}
use Rattle.aft_fields.specs.declared.table.Kind.{Kind}
use Rattle.aft_fields.specs.declared.table.Kind.TheVariants as kinds
use Rattle.aft_fields.specs.Spelling.{row_bytes}
use Rattle.aft_id.specs.declared.txn_id.TxnId.{TxnId}
use Rattle.aft_id.specs.TxnId.{uuid_number}
use Rattle.aft_records.specs.declared.stored.Commit.{Commit}
use Rattle.aft_records.specs.declared.stored.Record.{Record}
use Rattle.aft_records.specs.declared.stored.Version.{Version}
use Rattle.aft_records.specs.declared.stored.Marker.{Marker}
use Rattle.aft_records.specs.declared.stored.Marker.TheVariants.{Full, Done}
use Rattle.aft_records.specs.Names.{id_digits}

-- the tags of the tables: versions, commit records of both formats, full markers and short markers
abbrev pub version_tag : List ℕ
version_tag = codes "AV1"

abbrev pub commit_tag : List ℕ
commit_tag = codes "AC1"

abbrev pub record_tag : List ℕ
record_tag = codes "AC2"

abbrev pub full_tag : List ℕ
full_tag = codes "AF1"

abbrev pub done_tag : List ℕ
done_tag = codes "AD1"

-- the fields of the tables: each begins with the time and the UUID of an id
abbrev pub version_kinds : List Kind
version_kinds = kinds.U64 ∷ kinds.U128 ∷ kinds.Text ∷ kinds.Bytes ∷ []

abbrev pub commit_kinds : List Kind
commit_kinds = kinds.U64 ∷ kinds.U128 ∷ kinds.Texts ∷ []

abbrev pub record_kinds : List Kind
record_kinds = kinds.U64 ∷ kinds.U128 ∷ kinds.Texts ∷ kinds.U64 ∷ kinds.U64 ∷ kinds.Texts ∷ []

abbrev pub done_kinds : List Kind
done_kinds = kinds.U64 ∷ kinds.U128 ∷ []

-- the cells of an id, before others
abbrev pub id_cells : TxnId → List Cell → List Cell
id_cells id cells = U64 id.time ∷ U128 (uuid_number id.uuid) ∷ cells

-- the cells of a commit, in its record and in its full marker
abbrev pub commit_cells : Commit → List Cell
commit_cells c = id_cells c.id (Texts c.keys ∷ [])

-- the record of a commit in the first format
abbrev pub commit_row : Commit → List ℕ
commit_row c = row_bytes commit_tag (commit_cells c)

-- the cells of a record of the second format: those of its commit, and then those of its origin
abbrev pub record_cells : Record → List Cell
record_cells r = id_cells r.commit.id (Texts r.commit.keys ∷ U64 r.origin.node ∷ U64 r.origin.inc ∷ Texts (map id_digits r.origin.reads) ∷ [])

-- a record in the second format
abbrev pub record_row : Record → List ℕ
record_row r = row_bytes record_tag (record_cells r)

-- the cells of a version
abbrev pub version_cells : Version → List Cell
version_cells v = id_cells v.id (Text v.key ∷ Bytes v.value ∷ [])

-- a version
abbrev pub version_row : Version → List ℕ
version_row v = row_bytes version_tag (version_cells v)

-- a marker: a full one has the cells of its commit, a short one those of its id
abbrev pub marker_row : Marker → List ℕ
marker_row (Full c) = row_bytes full_tag (commit_cells c)
marker_row (Done id) = row_bytes done_tag (id_cells id [])
