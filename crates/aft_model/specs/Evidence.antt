-- What an entry of the door's history shows of the store.
use Rattle.std.specs.Prelude.{Bool, List, None, Option, Some, [], false, if◌then◌else◌, length, nat_lt, not, true, ℕ, ◌&&◌, ◌||◌, ◌∷◌}
use Rattle.std.specs.List.{last_or}
use Rattle.std.specs.Str.{bytes_eq}
use Rattle.aft_keeper.specs.declared.keeper.KeeperAnswer.{KeeperAnswer}
use Rattle.aft_keeper.specs.declared.keeper.KeeperAnswer.TheVariants.{Absent, Done, Found, Page}
use Rattle.aft_keeper.specs.declared.keeper.KeeperCall.{KeeperCall}
use Rattle.aft_keeper.specs.declared.keeper.KeeperCall.TheVariants.{Get, Put, Scan}
use Rattle.aft_keeper.specs.declared.keeper.Pair.{Pair}
use Rattle.aft_keeper.specs.Contents.{bytes_at, is_scanned, name_lt}
use Rattle.aft_model.specs.declared.door.DoorAct.{DoorAct}
use Rattle.aft_model.specs.declared.door.DoorAct.TheVariants.{Call}
use Rattle.aft_model.specs.declared.door.DoorEntry.{DoorEntry}

-- whether a name isn't beyond the last pair, if there is one
abbrev pub is_up_to : Option Pair → List ℕ → Bool
is_up_to None name = false
is_up_to (Some last) name = not (name_lt last.name name)

-- whether a page covers a name: it has the prefix and is greater than `after`, and it isn't beyond the last name of a full page
abbrev pub covers : List ℕ → List ℕ → ℕ → List Pair → List ℕ → Bool
covers prefix after limit pairs name = is_scanned prefix after name && (nat_lt (length pairs) limit || is_up_to (last_or None pairs) name)

-- what a page shows of a name: what it lists, or that it is absent where it covers it and doesn't list it
abbrev pub shown_on_page : Option (List ℕ) → Bool → Option (Option (List ℕ))
shown_on_page (Some bytes) covered = Some (Some bytes)
shown_on_page None true = Some None
shown_on_page None false = None

-- what an answered call shows of a name: its bytes, that it is absent, or nothing
abbrev pub shown_by : List ℕ → KeeperCall → KeeperAnswer → Option (Option (List ℕ))
shown_by name (Get got) (Found bytes) = if bytes_eq name got then Some (Some bytes) else None
shown_by name (Get got) Absent = if bytes_eq name got then Some None else None
shown_by name (Scan prefix after limit) (Page pairs) = shown_on_page (bytes_at name pairs) (covers prefix after limit pairs name)
shown_by name call answer = None

-- the same of an act
abbrev pub shown_in : List ℕ → DoorAct → Option (Option (List ℕ))
shown_in name (Call node inc call answer) = shown_by name call answer
shown_in name act = None

-- what an entry shows of a name: its bytes, that it is absent, or nothing
abbrev pub shown : List ℕ → DoorEntry → Option (Option (List ℕ))
shown name entry = shown_in name entry.act

-- whether what is shown of a name, if something is, is that it is absent
abbrev pub is_absence : Option (Option (List ℕ)) → Bool
is_absence (Some None) = true
is_absence sight = false

-- whether an entry shows a name absent
abbrev pub shows_absent : List ℕ → DoorEntry → Bool
shows_absent name entry = is_absence (shown name entry)

-- the pairs that an answered call shows
abbrev pub pairs_by : KeeperCall → KeeperAnswer → List Pair
pairs_by (Get got) (Found bytes) = record { name = got; bytes = bytes } ∷ []
pairs_by (Scan prefix after limit) (Page pairs) = pairs
pairs_by call answer = []

-- the same of an act
abbrev pub pairs_in : DoorAct → List Pair
pairs_in (Call node inc call answer) = pairs_by call answer
pairs_in act = []

-- the pairs that an entry shows
abbrev pub shown_pairs : DoorEntry → List Pair
shown_pairs entry = pairs_in entry.act

-- the pair that an answered call put, where it was acknowledged
abbrev pub stored_by : KeeperCall → KeeperAnswer → List Pair
stored_by (Put put bytes) Done = record { name = put; bytes = bytes } ∷ []
stored_by call answer = []

-- the same of an act
abbrev pub stored_in : DoorAct → List Pair
stored_in (Call node inc call answer) = stored_by call answer
stored_in act = []

-- the pair that an entry put, where it was acknowledged
abbrev pub stored_pairs : DoorEntry → List Pair
stored_pairs entry = stored_in entry.act
