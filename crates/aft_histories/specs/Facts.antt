-- Histories and stores of which facts are told.
use Rattle.std.specs.Prelude.{ℕ, List, [], ◌∷◌, ◌++◌, map}
use Rattle.std.specs.List.{range_with_len}
use Rattle.aft_keeper.specs.declared.keeper.Pair.{Pair}
use Rattle.aft_keeper.specs.declared.keeper.KeeperAnswer.TheVariants.{Failed, Absent, Done}
use Rattle.aft_model.specs.Membership.{last_inc}
use Rattle.aft_model.specs.ScanRun.{ScanPage}
use Rattle.aft_model.specs.declared.door.DoorEntry.{DoorEntry}
use Rattle.aft_histories.specs.Entries.{x, y, first, second, record_of, marker_of, record_pair, record_by, version_pair, puts, deletes_by, gets, comes_up, fences, claims, releases}
use Rattle.aft_histories.specs.Legal.{begun, stored, short_found, other}

-- the put of a record failed
abbrev pub in_doubt : List DoorEntry
in_doubt = stored ++ puts 1 1 (record_pair first) Failed ∷ []

-- a get found it absent, and it was put again
abbrev pub tried_again : List DoorEntry
tried_again = in_doubt ++ gets 1 1 (record_of 1) Absent ∷ puts 1 1 (version_pair x first.id) Done ∷ puts 1 1 (version_pair y first.id) Done ∷ puts 1 1 (record_pair first) Done ∷ []

-- a node claims a UUID, finds it unused and releases it; another node commits it; then the first claims it again, and goes by what it found before
abbrev pub older_gets : List DoorEntry
older_gets = begun ++ releases 1 1 1 ∷ comes_up 2 1 ∷ claims 1 2 1 ∷ gets 2 1 (record_of 1) Absent ∷ gets 2 1 (marker_of 1) Absent
    ∷ puts 2 1 (version_pair x first.id) Done ∷ puts 2 1 (version_pair y first.id) Done ∷ puts 2 1 (record_by 2 1 first) Done ∷ releases 1 2 1
    ∷ claims 1 1 1 ∷ puts 1 1 (version_pair x other.id) Done ∷ puts 1 1 (record_pair other) Done ∷ []

-- the delete of a short marker failed
abbrev pub forget_failed : List DoorEntry
forget_failed = short_found ++ deletes_by 1 1 (marker_of 1) Failed ∷ []

-- the last incarnation that node 1 can have was fenced
abbrev pub last_fenced : List DoorEntry
last_fenced = comes_up 1 last_inc ∷ fences 1 last_inc ∷ []

-- ---- stores

-- a record with its versions
abbrev pub whole_first : List Pair
whole_first = record_pair first ∷ version_pair x first.id ∷ version_pair y first.id ∷ []

-- and a later one that supersedes it
abbrev pub whole_both : List Pair
whole_both = record_pair first ∷ record_pair second ∷ version_pair x first.id ∷ version_pair y first.id ∷ version_pair x second.id ∷ version_pair y second.id ∷ []

-- bytes under a name
abbrev pub pair : List ℕ → List ℕ → Pair
pair name bytes = record { name = name; bytes = bytes }

-- ---- pages

-- a full page of records, and the page behind it
abbrev pub full_page : ScanPage
full_page = record { after = []; listed = map (λ n. pair (record_of n) []) (range_with_len 1 64) }

abbrev pub last_page : ScanPage
last_page = record { after = record_of 64; listed = pair (record_of 70) [] ∷ [] }
