-- Histories that the door may have.
use Rattle.std.specs.Prelude.{List, [], ◌∷◌, ◌++◌, codes}
use Rattle.aft_keeper.specs.declared.keeper.KeeperAnswer.TheVariants.{Failed, Absent, Found, Done}
use Rattle.aft_model.specs.declared.door.DoorAct.TheVariants.{Opened}
use Rattle.aft_records.specs.declared.stored.Commit.{Commit}
use Rattle.aft_model.specs.declared.door.DoorEntry.{DoorEntry}
use Rattle.aft_histories.specs.Entries.{id_of, x, y, first, second, record_of, marker_of, version_of, record_pair, record_by, upgraded_pair, old_record, version_pair, full_pair, done_pair, opening_entry, first_page, finds, puts, deletes, deletes_by, gets, got, comes_up, fences, claims, releases, gives_up, scans}

-- the opening of an empty store
abbrev pub empty_opening : List DoorEntry
empty_opening = first_page (codes "c/") [] ∷ first_page (codes "r/") [] ∷ opening_entry Opened ∷ []

-- the opening of a store with one commit, whose record is old: each of its versions is read
abbrev pub read_opening : List DoorEntry
read_opening = first_page (codes "c/") (old_record first ∷ []) ∷ first_page (codes "r/") []
    ∷ finds (version_pair x first.id) ∷ finds (version_pair y first.id) ∷ []

-- and found sound
abbrev pub full_opening : List DoorEntry
full_opening = read_opening ++ opening_entry Opened ∷ []

-- a node is up, and a transaction has claimed its UUID, and found neither record nor marker
abbrev pub begun : List DoorEntry
begun = empty_opening ++ comes_up 1 1 ∷ claims 1 1 1 ∷ gets 1 1 (record_of 1) Absent ∷ gets 1 1 (marker_of 1) Absent ∷ []

-- and it has stored its two versions
abbrev pub stored : List DoorEntry
stored = begun ++ puts 1 1 (version_pair x first.id) Done ∷ puts 1 1 (version_pair y first.id) Done ∷ []

-- and its record, and let the claim go
abbrev pub ordinary : List DoorEntry
ordinary = stored ++ puts 1 1 (record_pair first) Done ∷ releases 1 1 1 ∷ []

-- the put of the record failed, and a get found it
abbrev pub settled : List DoorEntry
settled = stored ++ puts 1 1 (record_pair first) Failed ∷ got 1 1 (record_pair first) ∷ releases 1 1 1 ∷ []

-- a second transaction overwrites both keys
abbrev pub superseded : List DoorEntry
superseded = ordinary ++ claims 3 1 1 ∷ gets 1 1 (record_of 3) Absent ∷ gets 1 1 (marker_of 3) Absent
    ∷ puts 1 1 (version_pair x second.id) Done ∷ puts 1 1 (version_pair y second.id) Done ∷ puts 1 1 (record_pair second) Done ∷ releases 3 1 1 ∷ []

-- the first is given up and marked
abbrev pub marked : List DoorEntry
marked = superseded ++ gives_up 1 1 first.id ∷ puts 0 1 (full_pair first) Done ∷ []

-- its record and versions are deleted, and the short marker stays
abbrev pub retired : List DoorEntry
retired = marked ++ deletes (record_of 1) Done ∷ deletes (version_of x first.id) Done ∷ deletes (version_of y first.id) Done ∷ puts 0 1 (done_pair first.id) Done ∷ []

-- the delete of the record failed, and the office found it absent
abbrev pub record_absent : List DoorEntry
record_absent = marked ++ deletes (record_of 1) Failed ∷ gets 0 1 (record_of 1) Absent ∷ deletes (version_of x first.id) Done ∷ []

-- the opening of a store in which the first commit is marked, and not yet deleted
abbrev pub marked_opening : List DoorEntry
marked_opening = first_page (codes "c/") (old_record first ∷ record_pair second ∷ []) ∷ first_page (codes "r/") (full_pair first ∷ [])
    ∷ finds (version_pair x first.id) ∷ finds (version_pair y first.id) ∷ finds (version_pair x second.id) ∷ finds (version_pair y second.id) ∷ opening_entry Opened ∷ []

-- and of one in which it is retired
abbrev pub retired_opening : List DoorEntry
retired_opening = first_page (codes "c/") (record_pair second ∷ []) ∷ first_page (codes "r/") (done_pair first.id ∷ [])
    ∷ finds (version_pair x second.id) ∷ finds (version_pair y second.id) ∷ opening_entry Opened ∷ []

-- two nodes come up and read the records, and each claims a UUID of its own
abbrev pub two_nodes : List DoorEntry
two_nodes = full_opening ++ comes_up 1 1 ∷ scans 1 1 (old_record first ∷ []) ∷ comes_up 2 1 ∷ scans 2 1 (old_record first ∷ [])
    ∷ claims 3 1 1 ∷ claims 4 2 1 ∷ gets 2 1 (version_of x first.id) (Found (version_pair x first.id).bytes) ∷ releases 4 2 1 ∷ releases 3 1 1 ∷ []

-- an old record is put again by the office, in the second format
abbrev pub upgraded : List DoorEntry
upgraded = full_opening ++ got 0 1 (old_record first) ∷ puts 0 1 (upgraded_pair first) Done ∷ []

-- ---- forgetting

-- a node claims the UUID of what is retired, and finds the short marker
abbrev pub short_found : List DoorEntry
short_found = retired ++ claims 1 1 1 ∷ gets 1 1 (record_of 1) Absent ∷ got 1 1 (done_pair first.id) ∷ []

-- and deletes it
abbrev pub forgot : List DoorEntry
forgot = short_found ++ deletes_by 1 1 (marker_of 1) Done ∷ releases 1 1 1 ∷ []

-- ---- orphan versions

-- the holder has stored two versions, and is fenced
abbrev pub left_behind : List DoorEntry
left_behind = stored ++ fences 1 1 ∷ []

-- the office claims the UUID, and finds neither record nor marker
abbrev pub looked_at : List DoorEntry
looked_at = left_behind ++ claims 1 0 1 ∷ gets 0 1 (record_of 1) Absent ∷ gets 0 1 (marker_of 1) Absent ∷ []

-- and deletes one of the versions
abbrev pub orphan_deleted : List DoorEntry
orphan_deleted = looked_at ++ deletes (version_of x first.id) Done ∷ releases 1 0 1 ∷ []

-- what another transaction of the UUID wrote, which node 2 commits where node 1 has left its versions behind
abbrev pub other : Commit
other = record { id = id_of 1002 1; keys = x ∷ [] }

abbrev pub committed_beside : List DoorEntry
committed_beside = left_behind ++ comes_up 2 1 ∷ claims 1 2 1 ∷ gets 2 1 (record_of 1) Absent ∷ gets 2 1 (marker_of 1) Absent
    ∷ puts 2 1 (version_pair x other.id) Done ∷ puts 2 1 (record_by 2 1 other) Done ∷ releases 1 2 1 ∷ []

-- the office claims the UUID, and finds the other record
abbrev pub other_found : List DoorEntry
other_found = committed_beside ++ claims 1 0 1 ∷ got 0 1 (record_by 2 1 other) ∷ gets 0 1 (marker_of 1) Absent ∷ []

-- so the versions that were left behind are orphans
abbrev pub other_kept : List DoorEntry
other_kept = other_found ++ deletes (version_of x first.id) Done ∷ []
