-- The histories that the tests make.
use Rattle.std.specs.Prelude.{List, [], codes, ℕ, ◌++◌, ◌∷◌}
use Rattle.std.specs.Int.{to_be_bytes, w128}
use Rattle.aft_id.specs.declared.txn_id.TxnId.{TxnId}
use Rattle.aft_keeper.specs.declared.keeper.KeeperAnswer.TheVariants.{Absent, Done, Found, Page}
use Rattle.aft_keeper.specs.declared.keeper.KeeperCall.TheVariants.{Delete, Get, Put, Scan}
use Rattle.aft_keeper.specs.declared.keeper.Pair.{Pair}
use Rattle.aft_records.specs.declared.stored.Commit.{Commit}
use Rattle.aft_records.specs.declared.stored.Marker.TheVariants.{Done as ShortOf, Full}
use Rattle.aft_records.specs.Rows.{commit_row, marker_row, record_row, version_row}
use Rattle.aft_model.specs.declared.caller.Caller.{Caller}
use Rattle.aft_model.specs.declared.door.DoorEntry.{DoorEntry}
use Rattle.aft_model.specs.Readings.{marker_name, record_name, version_name}
use Rattle.aft_model.specs.Sound.{markers_prefix, records_prefix}
use Rattle.aft_door.specs.Entries.{called, came_up, claimed, door_opened, gave_up, released}

-- the office, in the opening
abbrev pub opener : Caller
opener = record { node = 0; inc = 1; by = record { client = 0; line = 0 } }

-- incarnation 1 of a node, or the office, for line 1 of client 1
abbrev pub caller_of : ℕ → Caller
caller_of node = record { node = node; inc = 1; by = record { client = 1; line = 1 } }

-- the id of a time and of the UUID of a number
abbrev pub id_at : ℕ → ℕ → TxnId
id_at time number = record { time = time; uuid = to_be_bytes w128 number }

-- the key that the transactions write
abbrev pub key_x : List ℕ
key_x = codes "x"

-- what transaction 1 wrote at time 1000
abbrev pub older : Commit
older = record { id = id_at 1000 1; keys = key_x ∷ [] }

-- what transaction 2 wrote over it at time 1001
abbrev pub newer : Commit
newer = record { id = id_at 1001 2; keys = key_x ∷ [] }

-- a version without a value, as stored
abbrev pub stored_version : List ℕ → TxnId → List ℕ
stored_version key id = version_row (record { id = id; key = key; value = [] })

-- a caller claims a UUID, finds neither a record nor a marker of it, and puts a version
abbrev pub storing : Caller → List ℕ → TxnId → List DoorEntry
storing who key id =
    claimed who id.uuid
    ∷ called who (Get (record_name id.uuid)) Absent
    ∷ called who (Get (marker_name id.uuid)) Absent
    ∷ called who (Put (version_name key id) (stored_version key id)) Done
    ∷ []

-- node 1 commits one key
abbrev pub committing : List ℕ → TxnId → List DoorEntry
committing key id =
    storing (caller_of 1) key id
    ++ called (caller_of 1) (Put (record_name id.uuid) (record_row (record { commit = record { id = id; keys = key ∷ [] }; origin = record { node = 1; inc = 1; reads = [] } }))) Done
    ∷ []

-- a page of the opening, from the first name of a prefix on
abbrev pub first_page : List ℕ → List Pair → DoorEntry
first_page prefix pairs = called opener (Scan prefix [] 64) (Page pairs)

-- the opening of an empty store
abbrev pub opened_empty : List DoorEntry
opened_empty = first_page records_prefix [] ∷ first_page markers_prefix [] ∷ door_opened opener.by ∷ []

-- ---- a commit that is written over and retired

-- nodes 2 and 1 are up, and node 1 has committed the older and the newer transaction
abbrev pub written_over : List DoorEntry
written_over =
    opened_empty ++ came_up (caller_of 2).by 2 1 ∷ came_up (caller_of 1).by 1 1 ∷ []
    ++ committing key_x older.id ++ released (caller_of 1) older.id.uuid ∷ []
    ++ committing key_x newer.id

-- the nodes have given the older one up, and the office has marked it
abbrev pub marked_older : List DoorEntry
marked_older =
    written_over ++ gave_up (caller_of 1) older.id ∷ gave_up (caller_of 2) older.id
    ∷ called (caller_of 0) (Put (marker_name older.id.uuid) (marker_row (Full older))) Done
    ∷ []

-- the office has deleted its record and its version, and put its short marker
abbrev pub retired_older : List DoorEntry
retired_older =
    marked_older ++ called (caller_of 0) (Delete (record_name older.id.uuid)) Done
    ∷ called (caller_of 0) (Delete (version_name key_x older.id)) Done
    ∷ called (caller_of 0) (Put (marker_name older.id.uuid) (marker_row (ShortOf older.id))) Done
    ∷ []

-- ---- an old record

-- the record of the older transaction in the first format
abbrev pub old_record : Pair
old_record = record { name = record_name older.id.uuid; bytes = commit_row older }

-- the opening of a store with that record and its version
abbrev pub opened_old : List DoorEntry
opened_old =
    first_page records_prefix (old_record ∷ [])
    ∷ first_page markers_prefix []
    ∷ called opener (Get (version_name key_x older.id)) (Found (stored_version key_x older.id))
    ∷ door_opened opener.by
    ∷ []
