-- The cut of what a store holds: the records whose UUID has no marker, with their versions. It is what a backup copies.
use Rattle.std.specs.Prelude.{List, Bool, drop, false, filter, not, suc, ℕ, ◌&&◌, ◌||◌}
use Rattle.std.specs.List.{flat_map, list_any}
use Rattle.std.specs.Str.{bytes_eq}
use Rattle.aft_keeper.specs.declared.keeper.KeeperCall.TheVariants.{Put}
use Rattle.aft_keeper.specs.declared.keeper.Pair.{Pair}
use Rattle.aft_records.specs.declared.stored.Commit.{Commit}
use Rattle.aft_model.specs.declared.door.DoorAct.{DoorAct}
use Rattle.aft_model.specs.declared.door.DoorAct.TheVariants.{Call}
use Rattle.aft_model.specs.declared.door.DoorEntry.{DoorEntry}
use Rattle.aft_model.specs.Claims.{forgotten}
use Rattle.aft_model.specs.Readings.{id_of_marker, is_record_of, is_version_at, markers_in, record_name}
use Rattle.aft_model.specs.Sound.{recorded}

-- whether pairs have a marker of a UUID
abbrev pub has_marker : List ℕ → List Pair → Bool
has_marker uuid pairs = list_any (λ marker. bytes_eq uuid (id_of_marker marker).uuid) (flat_map markers_in pairs)

-- the commits of pairs whose UUID has no marker there
abbrev pub unmarked : List Pair → List Commit
unmarked pairs = filter (λ c. not (has_marker c.id.uuid pairs)) (recorded pairs)

-- whether a pair is the record, or one of the versions, of one of these commits
abbrev pub is_part_of : List Commit → Pair → Bool
is_part_of commits pair = list_any (λ c. is_record_of c pair || list_any (λ key. is_version_at key c.id pair) c.keys) commits

-- the cut
abbrev pub cut : List Pair → List Pair
cut pairs = filter (is_part_of (unmarked pairs)) pairs

-- ---- what a copy takes

-- whether an act puts this name, whatever was answered
abbrev pub tries_put : List ℕ → DoorAct → Bool
tries_put name (Call node inc (Put put bytes) answer) = bytes_eq name put
tries_put name act = false

-- whether a record of a UUID was put behind a place
abbrev pub put_since : List ℕ → ℕ → List DoorEntry → Bool
put_since uuid place history = list_any (λ entry. tries_put (record_name uuid) entry.act) (drop (suc place) history)

-- whether a copier that came up at this place takes a commit that it was shown, by the markers that it was shown and the history behind its scans: no record of its UUID was put since, no marker of it shown, and it isn't forgotten
abbrev pub is_taken : ℕ → List Pair → List DoorEntry → Commit → Bool
is_taken place markers history c = not (put_since c.id.uuid place history) && not (has_marker c.id.uuid markers) && not (forgotten c.id.uuid history)
