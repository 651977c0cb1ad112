-- Histories that keep every rule of the door, and not what else the lines of a run keep.
use Rattle.std.specs.Prelude.{ℕ, List, [], ◌∷◌, ◌++◌, drop}
use Rattle.aft_keeper.specs.declared.keeper.KeeperAnswer.TheVariants.{Absent, Done}
use Rattle.aft_records.specs.declared.stored.Commit.{Commit}
use Rattle.aft_model.specs.declared.door.DoorAct.TheVariants.{Claim}
use Rattle.aft_model.specs.declared.door.DoorEntry.{DoorEntry}
use Rattle.aft_model.specs.Readings.{record_name, marker_name}
use Rattle.aft_histories.specs.Entries.{u, x, y, first, second, record_of, marker_of, record_pair, upgraded_pair, full_pair, done_pair, version_pair, of_line, puts, deletes, gets, got, comes_up, claims, releases, gives_up}
use Rattle.aft_histories.specs.Illegal.{claimed_again}
use Rattle.aft_histories.specs.Legal.{empty_opening, full_opening, stored, retired}

-- a version is put by what its caller found behind an older claim
abbrev pub stored_by_older : List DoorEntry
stored_by_older = claimed_again ++ puts 1 1 (version_pair x first.id) Done ∷ []

-- a node lets its claim go behind its versions, takes it again, finds neither record nor marker, and puts the record at once
abbrev pub recorded_early : List DoorEntry
recorded_early = stored ++ releases 1 1 1 ∷ claims 1 1 1 ∷ gets 1 1 (record_of 1) Absent ∷ gets 1 1 (marker_of 1) Absent ∷ puts 1 1 (record_pair first) Done ∷ []

-- a commit is superseded, given up and marked, while the node that has just put its record holds its UUID
abbrev pub marked_while_held : List DoorEntry
marked_while_held = stored ++ puts 1 1 (record_pair first) Done ∷ claims 3 1 1 ∷ gets 1 1 (record_of 3) Absent ∷ gets 1 1 (marker_of 3) Absent
    ∷ puts 1 1 (version_pair x second.id) Done ∷ puts 1 1 (version_pair y second.id) Done ∷ puts 1 1 (record_pair second) Done
    ∷ gives_up 1 1 first.id ∷ puts 0 1 (full_pair first) Done ∷ []

-- the office puts an old record again, where it has claimed a UUID
abbrev pub upgraded_beside_claim : List DoorEntry
upgraded_beside_claim = full_opening ++ claims 9 0 1 ∷ puts 0 1 (upgraded_pair first) Done ∷ []

-- the office finds a short marker behind a claim of its own, and deletes it
abbrev pub forgot_by_office : List DoorEntry
forgot_by_office = retired ++ claims 1 0 1 ∷ got 0 1 (done_pair first.id) ∷ deletes (marker_of 1) Done ∷ []

-- ---- what is made of no bytes

-- a UUID whose first number is no byte, if it is 256 or more; those of 256 and 512 have one record name
abbrev pub wide : ℕ → List ℕ
wide n = n ∷ drop 1 (u 0)

-- two incarnations hold claims that guard one record name
abbrev pub claimed_by_two : List DoorEntry
claimed_by_two = empty_opening ++ comes_up 1 1 ∷ comes_up 2 1 ∷ of_line (Claim (wide 256) 1 1) ∷ of_line (Claim (wide 512) 2 1) ∷ []

-- what a transaction of such a UUID would write
abbrev pub wide_x : Commit
wide_x = record { id = record { time = 1000; uuid = wide 256 }; keys = x ∷ [] }

-- its version is put
abbrev pub stored_wide : List DoorEntry
stored_wide = claimed_by_two ++ gets 1 1 (record_name (wide 256)) Absent ∷ gets 1 1 (marker_name (wide 256)) Absent ∷ puts 1 1 (version_pair x wide_x.id) Done ∷ []
