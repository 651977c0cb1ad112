-- Histories that the door may not have: a legal history, and the entry that may not follow it.
use Rattle.std.specs.Prelude.{Bool, List, [], ◌∷◌, ◌++◌, codes, IsFalse}
use Rattle.aft_keeper.specs.declared.keeper.KeeperAnswer.TheVariants.{Failed, Absent, Done}
use Rattle.aft_model.specs.LegalDoor.{Legal, is_legal}
use Rattle.aft_model.specs.declared.door.DoorEntry.{DoorEntry}
use Rattle.aft_histories.specs.Entries.{x, y, first, second, record_of, marker_of, version_of, old_record, version_pair, full_pair, done_pair, first_page, opening_get, finds, puts, deletes, gets, got, comes_up, fences, claims, releases, gives_up}
use Rattle.aft_histories.specs.Legal.{empty_opening, full_opening, marked_opening, begun, superseded, marked, retired, short_found, left_behind}

-- the history is legal, the rule refuses what should follow it, and with it the history isn't legal
abbrev pub Refused : Bool → List DoorEntry → DoorEntry → Type 0
Refused rule before next = Legal before × IsFalse rule × IsFalse (is_legal (before ++ next ∷ []))

-- one of two versions is stored
abbrev pub half_stored : List DoorEntry
half_stored = begun ++ puts 1 1 (version_pair x first.id) Done ∷ puts 1 1 (version_pair y first.id) Failed ∷ []

-- a node claims a UUID that another node had claimed and found unused
abbrev pub claimed_after_another : List DoorEntry
claimed_after_another = begun ++ releases 1 1 1 ∷ comes_up 2 1 ∷ claims 1 2 1 ∷ []

-- a node claims again what it had claimed and found unused
abbrev pub claimed_again : List DoorEntry
claimed_again = begun ++ releases 1 1 1 ∷ claims 1 1 1 ∷ []

-- a node asks for the marker before the record
abbrev pub asked_backwards : List DoorEntry
asked_backwards = empty_opening ++ comes_up 1 1 ∷ claims 1 1 1 ∷ gets 1 1 (marker_of 1) Absent ∷ gets 1 1 (record_of 1) Absent ∷ []

-- a second node is up, while the first holds a UUID
abbrev pub held : List DoorEntry
held = begun ++ comes_up 2 1 ∷ []

-- the holder is fenced
abbrev pub holder_fenced : List DoorEntry
holder_fenced = begun ++ fences 1 1 ∷ []

-- the first commit is superseded, and of two nodes that are up one has given it up
abbrev pub half_given_up : List DoorEntry
half_given_up = superseded ++ comes_up 2 1 ∷ gives_up 1 1 first.id ∷ []

-- the second commit, which nothing supersedes, is given up
abbrev pub newest_given_up : List DoorEntry
newest_given_up = superseded ++ gives_up 1 1 second.id ∷ []

-- the delete of the record of a marked commit failed
abbrev pub record_in_doubt : List DoorEntry
record_in_doubt = marked ++ deletes (record_of 1) Failed ∷ []

-- of a marked commit the record and one version are deleted
abbrev pub half_deleted : List DoorEntry
half_deleted = marked ++ deletes (record_of 1) Done ∷ deletes (version_of x first.id) Done ∷ deletes (version_of y first.id) Failed ∷ []

-- the opening shows a record, and finds one of its versions absent
abbrev pub version_absent : List DoorEntry
version_absent = first_page (codes "c/") (old_record first ∷ []) ∷ first_page (codes "r/") [] ∷ finds (version_pair x first.id)
    ∷ opening_get (version_of y first.id) Absent ∷ []

-- the opening has shown all records
abbrev pub records_shown : List DoorEntry
records_shown = first_page (codes "c/") [] ∷ []

-- ---- upgrading a record

-- a node is up beside an old record
abbrev pub up_beside : List DoorEntry
up_beside = full_opening ++ comes_up 1 1 ∷ []

-- the old record of a marked commit was deleted, and that failed
abbrev pub deleted_before : List DoorEntry
deleted_before = marked_opening ++ deletes (record_of 1) Failed ∷ []

-- ---- forgetting

-- a node finds a short marker, and lets its claim go
abbrev pub found_and_let_go : List DoorEntry
found_and_let_go = short_found ++ releases 1 1 1 ∷ []

-- a second node finds a short marker before its first claim of the UUID
abbrev pub claimed_late : List DoorEntry
claimed_late = retired ++ comes_up 2 1 ∷ got 2 1 (done_pair first.id) ∷ claims 1 2 1 ∷ []

-- a node claims the UUID of a marked commit, and finds the full marker
abbrev pub full_found : List DoorEntry
full_found = marked ++ claims 1 1 1 ∷ got 1 1 (full_pair first) ∷ []

-- ---- orphan versions

-- the office asks for record and marker, and a node holds the UUID
abbrev pub held_by_node : List DoorEntry
held_by_node = left_behind ++ comes_up 2 1 ∷ claims 1 2 1 ∷ gets 0 1 (record_of 1) Absent ∷ gets 0 1 (marker_of 1) Absent ∷ []

-- the office holds by a later claim than that behind which it asked
abbrev pub looked_before : List DoorEntry
looked_before = left_behind ++ claims 1 0 1 ∷ gets 0 1 (record_of 1) Absent ∷ gets 0 1 (marker_of 1) Absent ∷ releases 1 0 1 ∷ claims 1 0 1 ∷ []
