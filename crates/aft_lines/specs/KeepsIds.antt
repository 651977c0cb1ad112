-- That an id commits no more until it is forgotten, also by later runs: what the store holds tells that it was used.
use Rattle.std.specs.Prelude.{Bool, IsTrue, List, [], map, not, ℕ, ◌++◌, ◌||◌}
use Rattle.std.specs.List.{flat_map, list_all, list_any}
use Rattle.aft_keeper.specs.declared.keeper.Pair.{Pair}
use Rattle.aft_records.specs.Commits.{has_uuid}
use Rattle.aft_model.specs.declared.door.DoorEntry.{DoorEntry}
use Rattle.aft_model.specs.Claims.{forgotten}
use Rattle.aft_model.specs.Committed.{committed}
use Rattle.aft_model.specs.Contents.{may_be_held}
use Rattle.aft_model.specs.Cut.{has_marker}
use Rattle.aft_model.specs.DoorKnowledge.{is_open}
use Rattle.aft_model.specs.Evidence.{shown_pairs}
use Rattle.aft_model.specs.History.{each_prefix}
use Rattle.aft_model.specs.Office.{before_open}
use Rattle.aft_model.specs.Readings.{id_of_marker, markers_in}
use Rattle.aft_model.specs.Sound.{recorded}

-- the UUIDs that the opening was shown a marker of
abbrev pub marked_at_first : List DoorEntry → List (List ℕ)
marked_at_first history = map (λ marker. (id_of_marker marker).uuid) (flat_map markers_in (flat_map shown_pairs (before_open history)))

-- the UUIDs that a history has used: those of its commits, and of the markers that the opening was shown
abbrev pub used : List DoorEntry → List (List ℕ)
used history = map (λ c. c.id.uuid) (committed history) ++ marked_at_first history

-- whether pairs have a record or a marker of a UUID
abbrev pub has_trace_of : List ℕ → List Pair → Bool
has_trace_of uuid pairs = list_any (has_uuid uuid) (recorded pairs) || has_marker uuid pairs

-- whether the contents behind a history have a record or a marker of each UUID that it has used and that isn't forgotten
abbrev pub keeps_ids : List Pair → List DoorEntry → Bool
keeps_ids contents history = not (is_open history) || list_all (λ uuid. forgotten uuid history || has_trace_of uuid contents) (used history)

-- whether all contents that a store may hold behind a history keep them
abbrev pub all_keep_ids : List Pair → List DoorEntry → Bool
all_keep_ids at_first history = list_all (λ contents. keeps_ids contents history) (may_be_held at_first history)

-- a history along which a store that held these contents at first keeps what tells of each used UUID, after each entry
abbrev pub KeepsIds : List Pair → List DoorEntry → Type 0
KeepsIds at_first history = IsTrue (each_prefix (all_keep_ids at_first) [] history)
