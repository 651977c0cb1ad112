-- The course of a scan run: the pages that a line asks for, one after the other, and where it stops.
use Rattle.std.specs.Prelude.{Bool, List, None, Option, Some, [], false, if◌then◌else◌, length, nat_le, not, true, ℕ, ◌&&◌, ◌++◌, ◌+◌, ◌==◌, ◌||◌, ◌∷◌}
use Rattle.std.specs.List.{list_all}
use Rattle.std.specs.Str.{bytes_eq}
use Rattle.aft_keeper.specs.declared.keeper.KeeperAnswer.TheVariants.{Page}
use Rattle.aft_keeper.specs.declared.keeper.KeeperCall.TheVariants.{Scan}
use Rattle.aft_keeper.specs.declared.keeper.Pair.{Pair}
use Rattle.aft_model.specs.declared.door.DoorAct.TheVariants.{Call}
use Rattle.aft_model.specs.Membership.{Incarnation, incarnation, same_incarnation}
use Rattle.aft_model.specs.Readings.{has_reading}
use Rattle.aft_model.specs.ScanRun.{next_after, page_limit}
use Rattle.aft_lines.specs.Turns.{AtDoor, Turn}

-- how far a scan run may go: how many names it may show, and whether a pair without a reading stops it
pub record ScanLimit : Type 0 where
  pub most : ℕ
  pub judges : Bool

-- the limits of a scan of records or markers, of a scan of records for a copy, and of a scan of the versions of a key
abbrev pub names_limit : ScanLimit
names_limit = record { most = 20000; judges = true }

abbrev pub copy_limit : ScanLimit
copy_limit = record { most = 4000; judges = true }

abbrev pub versions_limit : ScanLimit
versions_limit = record { most = 6400; judges = false }

-- how far a scan run came: what its pages listed, whether it came to the end with nothing that stops it, and the turns behind it
pub record Scanned : Type 0 where
  pub listed : List Pair
  pub is_whole : Bool
  pub behind : List Turn

-- a run that stopped here: what it listed, and the turns behind it
abbrev pub stopped_at : List Pair → List Turn → Scanned
stopped_at listed behind = record { listed = listed; is_whole = false; behind = behind }

-- whether a page stops a run: with what was listed before it shows a name past the number allowed, or, where that is judged, a pair without a reading
abbrev pub stops_at : ScanLimit → List Pair → List Pair → Bool
stops_at limit listed pairs = not (nat_le (length listed + length pairs) limit.most && (not limit.judges || list_all has_reading pairs))

-- a run that goes on from a name, or is at its end
abbrev pub behind_good_page : List Pair → Option (List ℕ) → (List ℕ → Scanned) → List Turn → Scanned
behind_good_page listed None go_on behind = record { listed = listed; is_whole = true; behind = behind }
behind_good_page listed (Some next) go_on behind = go_on next

-- a page, and then the rest of the run: it goes on after a full page that doesn't stop it
abbrev pub behind_page : ScanLimit → List Pair → List Pair → Option (List ℕ) → (List ℕ → Scanned) → List Turn → Scanned
behind_page most listed pairs next go_on behind =
    if stops_at most listed pairs then stopped_at (listed ++ pairs) behind
    else behind_good_page (listed ++ pairs) next go_on behind

-- a run from a name on, by this caller, after what it listed: the next turn is a call for the next page, or the call was refused
abbrev pub scanned_from : ScanLimit → Incarnation → List ℕ → List ℕ → List Pair → List Turn → Scanned
scanned_from most who prefix after listed (AtDoor place (Call node inc (Scan scanned begins limit) (Page pairs)) ∷ line) =
    if same_incarnation who (incarnation node inc) && bytes_eq prefix scanned && bytes_eq after begins && limit == page_limit
    then behind_page most listed pairs (next_after (record { after = after; listed = pairs })) (λ next. scanned_from most who prefix next (listed ++ pairs) line) line
    else stopped_at listed (AtDoor place (Call node inc (Scan scanned begins limit) (Page pairs)) ∷ line)
scanned_from most who prefix after listed (AtDoor place (Call node inc (Scan scanned begins limit) answer) ∷ line) =
    if same_incarnation who (incarnation node inc) && bytes_eq prefix scanned && bytes_eq after begins && limit == page_limit
    then stopped_at listed line
    else stopped_at listed (AtDoor place (Call node inc (Scan scanned begins limit) answer) ∷ line)
scanned_from most who prefix after listed line = stopped_at listed line

-- a run of a prefix by this caller
abbrev pub scanned : ScanLimit → Incarnation → List ℕ → List Turn → Scanned
scanned most who prefix line = scanned_from most who prefix [] [] line
