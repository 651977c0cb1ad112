-- What a store shows after a put that it acknowledged, and after one that failed.
use Rattle.std.specs.Prelude.{List, [], ◌∷◌, codes}
use Rattle.aft_keeper.specs.declared.keeper.KeeperCall.TheVariants.{Get, Put, Scan}
use Rattle.aft_keeper.specs.declared.keeper.KeeperAnswer.TheVariants.{Failed, Absent, Found, Done, Page}
use Rattle.aft_model.specs.declared.door.DoorEntry.{DoorEntry}
use Rattle.aft_histories.specs.Entries.{record_of, asks}

-- a get finds what was put
abbrev pub shown_again : List DoorEntry
shown_again = asks 1 1 (Put (record_of 1) (codes "one")) Done ∷ asks 2 1 (Get (record_of 1)) (Found (codes "one")) ∷ []

-- a put fails where the name was absent, and a get finds its bytes
abbrev pub failed_and_there : List DoorEntry
failed_and_there = asks 1 1 (Get (record_of 1)) Absent ∷ asks 1 1 (Put (record_of 1) (codes "one")) Failed ∷ asks 1 1 (Get (record_of 1)) (Found (codes "one")) ∷ []

-- a put fails where the name was absent, and a get finds it absent
abbrev pub failed_and_absent : List DoorEntry
failed_and_absent = asks 1 1 (Get (record_of 1)) Absent ∷ asks 1 1 (Put (record_of 1) (codes "one")) Failed ∷ asks 1 1 (Get (record_of 1)) Absent ∷ []

-- a get finds absent what was put
abbrev pub forgotten : List DoorEntry
forgotten = asks 1 1 (Put (record_of 1) (codes "one")) Done ∷ asks 1 1 (Get (record_of 1)) Absent ∷ []

-- a page that isn't full covers a name that was put, and leaves it out
abbrev pub left_out : List DoorEntry
left_out = asks 1 1 (Put (record_of 2) (codes "two")) Done ∷ asks 1 1 (Scan (codes "c/") [] 64) (Page (record { name = record_of 1; bytes = codes "one" } ∷ [])) ∷ []
