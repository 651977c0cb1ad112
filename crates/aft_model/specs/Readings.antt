-- Which bytes have a reading for the name that they stand under.
use Rattle.std.specs.Prelude.{Bool, Err, List, Ok, Result, [], if◌then◌else◌, length, not, ℕ, ◌&&◌, ◌+◌, ◌==◌, ◌∷◌}
use Rattle.std.specs.Cmp.Lexicographic.{pointwise}
use Rattle.std.specs.List.{list_any}
use Rattle.std.specs.Str.{bytes_eq}
use Rattle.aft_id.specs.declared.txn_id.TxnId.{TxnId}
use Rattle.aft_id.specs.TxnId.{same_id}
use Rattle.aft_keeper.specs.declared.keeper.Pair.{Pair}
use Rattle.aft_records.specs.declared.fault.RecordFault.{RecordFault}
use Rattle.aft_records.specs.declared.name.Name.TheVariants.{CommitOf, RetiredOf, VersionOf}
use Rattle.aft_records.specs.declared.stored.Commit.{Commit}
use Rattle.aft_records.specs.declared.stored.Marker.{Marker}
use Rattle.aft_records.specs.declared.stored.Marker.TheVariants.{Done, Full}
use Rattle.aft_records.specs.declared.stored.Record.{Record}
use Rattle.aft_records.specs.declared.stored.Version.{Version}
use Rattle.aft_records.specs.Commits.{same_commit}
use Rattle.aft_records.specs.Names.{name_text}
use Rattle.aft_records.specs.Reading.{commit_of, marker_of, record_of, version_of}

-- the id of a marker
abbrev pub id_of_marker : Marker → TxnId
id_of_marker (Full c) = c.id
id_of_marker (Done id) = id

-- the names of the record and of the marker of a UUID, and of a version
abbrev pub record_name : List ℕ → List ℕ
record_name uuid = name_text (CommitOf uuid)

abbrev pub marker_name : List ℕ → List ℕ
marker_name uuid = name_text (RetiredOf uuid)

abbrev pub version_name : List ℕ → TxnId → List ℕ
version_name key id = name_text (VersionOf key id)

-- what was read, where it stands under its name
abbrev pub read_under : {A : Type 0} → List ℕ → (A → List ℕ) → Result A RecordFault → List A
read_under name its_name (Ok x) = if bytes_eq name (its_name x) then x ∷ [] else []
read_under name its_name (Err e) = []

-- the commit whose record a pair is, in either format, under the name of its UUID
abbrev pub records_in : Pair → List Commit
records_in pair = read_under pair.name (λ c. record_name c.id.uuid) (commit_of pair.bytes)

-- the record of the second format that a pair is, under the name of its UUID
abbrev pub written_in : Pair → List Record
written_in pair = read_under pair.name (λ r. record_name r.commit.id.uuid) (record_of pair.bytes)

-- the commit whose record a pair is in the first format
abbrev pub first_format_in : Pair → List Commit
first_format_in pair = if length (written_in pair) == 0 then records_in pair else []

-- the marker that a pair is, under the name of its UUID
abbrev pub markers_in : Pair → List Marker
markers_in pair = read_under pair.name (λ m. marker_name (id_of_marker m).uuid) (marker_of pair.bytes)

-- the version that a pair is, under the name of its key and id
abbrev pub versions_in : Pair → List Version
versions_in pair = read_under pair.name (λ v. version_name v.key v.id) (version_of pair.bytes)

-- whether a pair is the record of this commit
abbrev pub is_record_of : Commit → Pair → Bool
is_record_of c pair = list_any (same_commit c) (records_in pair)

-- whether two records are the same
abbrev pub same_record : Record → Record → Bool
same_record a b =
    same_commit a.commit b.commit && a.origin.node == b.origin.node && a.origin.inc == b.origin.inc && pointwise same_id a.origin.reads b.origin.reads

-- whether a pair is a version of this key and id, of any value
abbrev pub is_version_at : List ℕ → TxnId → Pair → Bool
is_version_at key id pair = list_any (λ v. bytes_eq key v.key && same_id id v.id) (versions_in pair)

-- whether a pair has a reading: it is a record, a marker or a version, under its name; any other shows no commit and no id
abbrev pub has_reading : Pair → Bool
has_reading pair = not (length (records_in pair) + length (markers_in pair) + length (versions_in pair) == 0)
