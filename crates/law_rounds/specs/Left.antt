-- What is left of a scan, of a copy and of a round of orphans at their positions.
use Rattle.std.specs.Prelude.{Bool, List, [], false, if◌then◌else◌, true, ℕ}
use Rattle.std.specs.List.{list_any}
use Rattle.aft_keeper.specs.declared.keeper.Pair.{Pair}
use Rattle.aft_records.specs.declared.stored.Commit.{Commit}
use Rattle.aft_model.specs.Membership.{Incarnation}
use Rattle.aft_model.specs.Readings.{marker_name}
use Rattle.aft_model.specs.Sound.{markers_prefix, recorded, records_prefix}
use Rattle.aft_lines.specs.Advance.{to_copy}
use Rattle.aft_lines.specs.BackupCourse.{Copier, copies, fence_course, last_door_place}
use Rattle.aft_lines.specs.CourseWords.{Ends, ends_at_office}
use Rattle.aft_lines.specs.OrphanCourse.{IsKept, IsLast, VersionAt, Way, deletes_found, found_on, frees, is_way, looks, tells_round, ways, works_on_found}
use Rattle.aft_lines.specs.Partings.{turns_before}
use Rattle.aft_lines.specs.Progress.{HasLeft, Holds, LookedOnce, LookedTwice, MustFree, MustTell, Scanning, Standing}
use Rattle.aft_lines.specs.ScanCourse.{ScanLimit, Scanned, copy_limit, names_limit, scanned_from}
use Rattle.aft_lines.specs.Turns.{Turn}

-- a scan on its way, from a name on, that has listed these pairs
abbrev pub scan_at : ScanLimit → Incarnation → List ℕ → List ℕ → List Pair → Scanning
scan_at limit who prefix after listed = record { limit = limit; who = who; prefix = prefix; after = after; listed = listed }

-- the place of the last turn at the door before a rest of a line, or this one where there is none
abbrev pub place_before : ℕ → List Turn → List Turn → ℕ
place_before place rest line = last_door_place place (turns_before rest line)

-- of a copy that has these versions to get
abbrev pub left_of_versions : Copier → List VersionAt → List Turn → Bool
left_of_versions by names line = fence_course by.who (copies by.who names line).is_whole (copies by.who names line).behind

-- behind a scan of markers, whose last page stands at this place, where these records were shown
abbrev pub behind_markers_scan : Ends → Copier → List Commit → ℕ → Scanned → Bool
behind_markers_scan ends by records place pages = if pages.is_whole then left_of_versions by (to_copy ends by records pages.listed place) pages.behind else fence_course by.who false pages.behind

-- of a copy that scans the markers, from a name on, and has listed these; its last page before stood at this place
abbrev pub left_of_markers : Ends → Copier → List Commit → ℕ → List ℕ → List Pair → List Turn → Bool
left_of_markers ends by records place after listed line =
    behind_markers_scan ends by records (place_before place (scanned_from names_limit by.who markers_prefix after listed line).behind line) (scanned_from names_limit by.who markers_prefix after listed line)

-- behind a scan of records, whose last page stands at this place
abbrev pub behind_records_scan : Ends → Copier → ℕ → Scanned → Bool
behind_records_scan ends by place pages = if pages.is_whole then left_of_markers ends by (recorded pages.listed) place [] [] pages.behind else fence_course by.who false pages.behind

-- of a copy that scans the records, from a name on, and has listed these; its last page before stood at this place
abbrev pub left_of_records : Ends → Copier → ℕ → List ℕ → List Pair → List Turn → Bool
left_of_records ends by place after listed line =
    behind_records_scan ends by (place_before place (scanned_from copy_limit by.who records_prefix after listed line).behind line) (scanned_from copy_limit by.who records_prefix after listed line)

-- whether some of the ways of a round leads to the end of its line
abbrev pub some_way : List Way → Bool
some_way found = list_any is_way found

-- of a round of orphans that may stand so
abbrev pub left_of_standing : Ends → Standing → List Turn → Bool
left_of_standing ends (HasLeft left) line = some_way (ways ends left line)
left_of_standing ends (Holds held) line = some_way (works_on_found ends held.one (ways ends held.rest) line)
left_of_standing ends (LookedOnce held) line = some_way (looks ends held.one (marker_name held.one.id.uuid) (deletes_found ends held.one (ways ends held.rest)) (ways ends held.rest) line)
left_of_standing ends (LookedTwice held) line = some_way (deletes_found ends held.one (ways ends held.rest) line)
left_of_standing ends (MustFree true held) line = some_way (frees ends held.one IsKept (ways ends held.rest) line)
left_of_standing ends (MustFree false held) line = some_way (frees ends held.one IsLast (ways ends held.rest) line)
left_of_standing ends MustTell line = ends_at_office (tells_round false) line

-- behind the scan of a round
abbrev pub behind_versions_scan : Ends → Scanned → Bool
behind_versions_scan ends pages = if pages.is_whole then some_way (ways ends (found_on pages.listed) pages.behind) else ends_at_office (tells_round false) pages.behind
