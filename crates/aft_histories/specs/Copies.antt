-- What stores hold beside histories, and what a copy takes.
use Rattle.std.specs.Prelude.{ℕ, List, [], ◌∷◌, ◌++◌, length}
use Rattle.aft_keeper.specs.declared.keeper.KeeperAnswer.TheVariants.{Done}
use Rattle.aft_keeper.specs.declared.keeper.Pair.{Pair}
use Rattle.aft_model.specs.declared.door.DoorEntry.{DoorEntry}
use Rattle.aft_histories.specs.Entries.{x, y, first, second, record_pair, version_pair, full_pair, puts, comes_up}
use Rattle.aft_histories.specs.Facts.{whole_both}
use Rattle.aft_histories.specs.Legal.{other, stored}

-- ---- the cut

-- two commits, of which the first is marked, and a version that no record names
abbrev pub marked_store : List Pair
marked_store = whole_both ++ full_pair first ∷ version_pair x other.id ∷ []

-- what is copied of it
abbrev pub copied : List Pair
copied = record_pair second ∷ version_pair x second.id ∷ version_pair y second.id ∷ []

-- ---- what a copy takes

-- a copier comes up where a node has stored its versions
abbrev pub copier_up : List DoorEntry
copier_up = stored ++ comes_up 9 1 ∷ []

-- where it came up
abbrev pub up_place : ℕ
up_place = length stored

-- and the record is put then
abbrev pub recorded_since : List DoorEntry
recorded_since = copier_up ++ puts 1 1 (record_pair first) Done ∷ []

-- ---- contents

-- the versions of the first commit, in the order of their names
abbrev pub only_versions : List Pair
only_versions = version_pair x first.id ∷ version_pair y first.id ∷ []
