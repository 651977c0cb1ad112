-- Which pairs of a store are sound together, and which of them offends first.
use Rattle.std.specs.Prelude.{Bool, IsTrue, List, None, Option, Some, codes, false, filter, if◌then◌else◌, length, map, nat_eq, not, ℕ, ◌&&◌, ◌++◌, ◌==◌, ◌||◌}
use Rattle.std.specs.List.{flat_map, fold, list_any, starts_with}
use Rattle.aft_keeper.specs.declared.keeper.Pair.{Pair}
use Rattle.aft_keeper.specs.Contents.{name_lt}
use Rattle.aft_records.specs.declared.stored.Commit.{Commit}
use Rattle.aft_records.specs.declared.stored.Marker.{Marker}
use Rattle.aft_records.specs.declared.stored.Marker.TheVariants.{Done, Full}
use Rattle.aft_records.specs.Commits.{has_uuid, same_commit}
use Rattle.aft_records.specs.Superseded.{is_superseded}
use Rattle.aft_model.specs.Readings.{is_version_at, markers_in, records_in, version_name}

-- the prefixes of the names of records and of markers
abbrev pub records_prefix : List ℕ
records_prefix = codes "c/"

abbrev pub markers_prefix : List ℕ
markers_prefix = codes "r/"

-- the commits whose records are among the pairs
abbrev pub recorded : List Pair → List Commit
recorded pairs = flat_map records_in pairs

-- whether a marker offends: a full one whose commit differs from the record of its UUID, or isn't superseded by the records, and a short one whose UUID has a record
abbrev pub marker_offends : List Commit → Marker → Bool
marker_offends records (Full c) = list_any (λ d. has_uuid c.id.uuid d && not (same_commit c d)) records || not (is_superseded c records)
marker_offends records (Done id) = list_any (has_uuid id.uuid) records

-- whether a pair offends: a record or a marker that has no reading for its name, or a marker that offends beside these records; others aren't judged
abbrev pub pair_offends : List Commit → Pair → Bool
pair_offends records pair =
    if starts_with nat_eq pair.name records_prefix then length (records_in pair) == 0
    else if starts_with nat_eq pair.name markers_prefix then length (markers_in pair) == 0 || list_any (marker_offends records) (markers_in pair)
    else false

-- the names of the versions of a commit that are absent, have no reading, or are of another key or id
abbrev pub missing_versions : List Pair → Commit → List (List ℕ)
missing_versions pairs c = map (λ key. version_name key c.id) (filter (λ key. not (list_any (is_version_at key c.id) pairs)) c.keys)

-- the names that offend
abbrev pub offenders : List Pair → List (List ℕ)
offenders pairs = map (λ pair. pair.name) (filter (pair_offends (recorded pairs)) pairs) ++ flat_map (missing_versions pairs) (recorded pairs)

-- the lesser name
abbrev pub lesser : Option (List ℕ) → List ℕ → Option (List ℕ)
lesser None name = Some name
lesser (Some least) name = if name_lt name least then Some name else Some least

-- the first name that offends, in byte order
abbrev pub first_offender : List Pair → Option (List ℕ)
first_offender pairs = fold lesser None (offenders pairs)

-- pairs of which none offends
abbrev pub is_sound : List Pair → Bool
is_sound pairs = length (offenders pairs) == 0

abbrev pub Sound : List Pair → Type 0
Sound pairs = IsTrue (is_sound pairs)
