-- The opening: the office reads all records, then all markers, then each version of each record, and opens the door where all of it is sound.
use Rattle.std.specs.Prelude.{Bool, List, Some, [], false, map, not, true, ℕ, ◌&&◌, ◌==◌, ◌||◌}
use Rattle.std.specs.List.{flat_map, list_all, list_any}
use Rattle.std.specs.Option.{option_eq}
use Rattle.std.specs.Str.{bytes_eq}
use Rattle.aft_keeper.specs.declared.keeper.KeeperAnswer.TheVariants.{Failed}
use Rattle.aft_keeper.specs.declared.keeper.KeeperCall.{KeeperCall}
use Rattle.aft_keeper.specs.declared.keeper.KeeperCall.TheVariants.{Get, Scan}
use Rattle.aft_keeper.specs.declared.keeper.Pair.{Pair}
use Rattle.aft_model.specs.declared.caller.By.{By}
use Rattle.aft_model.specs.declared.door.DoorAct.{DoorAct}
use Rattle.aft_model.specs.declared.door.DoorAct.TheVariants.{Call, Opened}
use Rattle.aft_model.specs.declared.door.DoorEntry.{DoorEntry}
use Rattle.aft_model.specs.Evidence.{shown_pairs}
use Rattle.aft_model.specs.Membership.{incarnation, same_incarnation, the_office}
use Rattle.aft_model.specs.Readings.{version_name}
use Rattle.aft_model.specs.ScanRun.{ScanPage, goes_on, is_scan_run, page_limit, same_line, scan_pages}
use Rattle.aft_model.specs.Sound.{is_sound, markers_prefix, recorded, records_prefix}

-- the line of the opening
abbrev pub opening : By
opening = record { client = 0; line = 0 }

-- the pages of records and of markers that the opening has shown so far
abbrev pub record_pages : List DoorEntry → List ScanPage
record_pages history = scan_pages the_office opening records_prefix history

abbrev pub marker_pages : List DoorEntry → List ScanPage
marker_pages history = scan_pages the_office opening markers_prefix history

-- what a history has shown
abbrev pub all_shown : List DoorEntry → List Pair
all_shown history = flat_map (λ entry. shown_pairs entry) history

-- the names of the versions of each record that was shown
abbrev pub version_names : List DoorEntry → List (List ℕ)
version_names history = flat_map (λ c. map (λ key. version_name key c.id) c.keys) (recorded (all_shown history))

-- whether an act is a get of this name
abbrev pub gets : List ℕ → DoorAct → Bool
gets name (Call node inc (Get got) answer) = bytes_eq name got
gets name act = false

-- whether a name was asked for
abbrev pub has_got : List DoorEntry → List ℕ → Bool
has_got history name = list_any (λ entry. gets name entry.act) history

-- whether an act is a call that failed
abbrev pub is_failure : DoorAct → Bool
is_failure (Call node inc asked Failed) = true
is_failure act = false

-- whether a call failed
abbrev pub has_failed : List DoorEntry → Bool
has_failed history = list_any (λ entry. is_failure entry.act) history

-- whether all records and all markers were shown
abbrev pub all_scanned : List DoorEntry → Bool
all_scanned history = is_scan_run (record_pages history) && is_scan_run (marker_pages history)

-- whether a call is the next of the opening: a page of records, a page of markers behind all records, or a version behind all markers
abbrev pub is_next_read : List DoorEntry → KeeperCall → Bool
is_next_read history (Scan prefix after limit) =
    limit == page_limit
    && (bytes_eq prefix records_prefix && option_eq bytes_eq (goes_on (Some []) (record_pages history)) (Some after)
    || bytes_eq prefix markers_prefix && is_scan_run (record_pages history) && option_eq bytes_eq (goes_on (Some []) (marker_pages history)) (Some after))
is_next_read history (Get name) = all_scanned history && list_any (bytes_eq name) (version_names history) && not (has_got history name)
is_next_read history asked = false

-- whether the office knows that the door may be opened: all was read, no call failed, and what was shown is sound
abbrev pub knows_sound : List DoorEntry → Bool
knows_sound history = all_scanned history && list_all (has_got history) (version_names history) && not (has_failed history) && is_sound (all_shown history)

-- whether an act may come before the door is open
abbrev pub may_read : List DoorEntry → DoorAct → Bool
may_read history (Call node inc asked answer) = same_incarnation the_office (incarnation node inc) && not (has_failed history) && is_next_read history asked
may_read history Opened = knows_sound history
may_read history act = false

-- whether an entry may come before the door is open: it is of the opening's line
abbrev pub may_open : List DoorEntry → DoorEntry → Bool
may_open history entry = same_line opening entry.by && may_read history entry.act
