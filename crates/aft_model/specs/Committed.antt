-- Which commits a history has acknowledged or shown, and which of them it has marked as retired.
use Rattle.std.specs.Prelude.{IsTrue, List, [], ◌++◌, ◌∷◌}
use Rattle.std.specs.List.{flat_map}
use Rattle.aft_id.specs.declared.txn_id.TxnId.{TxnId}
use Rattle.aft_keeper.specs.declared.keeper.Pair.{Pair}
use Rattle.aft_records.specs.declared.stored.Commit.{Commit}
use Rattle.aft_records.specs.declared.stored.Marker.{Marker}
use Rattle.aft_records.specs.declared.stored.Marker.TheVariants.{Done, Full}
use Rattle.aft_records.specs.Commits.{is_among}
use Rattle.aft_model.specs.declared.door.DoorEntry.{DoorEntry}
use Rattle.aft_model.specs.Evidence.{shown_pairs, stored_pairs}
use Rattle.aft_model.specs.Readings.{markers_in, records_in}

-- the pairs that an entry put, where it was acknowledged, or shows
abbrev pub proven_pairs : DoorEntry → List Pair
proven_pairs entry = stored_pairs entry ++ shown_pairs entry

-- the commit of a full marker
abbrev pub retired_by : Marker → List Commit
retired_by (Full c) = c ∷ []
retired_by (Done id) = []

-- the id of a short marker
abbrev pub done_by : Marker → List TxnId
done_by (Full c) = []
done_by (Done id) = id ∷ []

-- the id whose short marker a pair is
abbrev pub shorts_in : Pair → List TxnId
shorts_in pair = flat_map done_by (markers_in pair)

-- the commit whose full marker a pair is
abbrev pub marks_in : Pair → List Commit
marks_in pair = flat_map retired_by (markers_in pair)

-- the commits whose records an entry put or shows
abbrev pub committed_by : DoorEntry → List Commit
committed_by entry = flat_map records_in (proven_pairs entry)

-- the commits whose full markers an entry put or shows
abbrev pub marked_by : DoorEntry → List Commit
marked_by entry = flat_map (λ pair. marks_in pair) (proven_pairs entry)

-- the commits of a history, one for each time that their record was put or shown
abbrev pub committed : List DoorEntry → List Commit
committed history = flat_map (λ entry. committed_by entry) history

-- the marked commits of a history, one for each time that their full marker was put or shown
abbrev pub marked : List DoorEntry → List Commit
marked history = flat_map (λ entry. marked_by entry) history

-- a commit that the history has acknowledged or shown
abbrev pub Committed : Commit → List DoorEntry → Type 0
Committed c history = IsTrue (is_among c (committed history))

-- a commit whose full marker the history has acknowledged or shown
abbrev pub Marked : Commit → List DoorEntry → Type 0
Marked c history = IsTrue (is_among c (marked history))
