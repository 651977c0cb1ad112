-- The causes of what a line answers by what the store showed it or refused it: a call that failed, too many records, and damage.
use Rattle.std.specs.Prelude.{Bool, List, None, Option, Some, [], false, filter, if◌then◌else◌, length, map, nat_lt, not, true, ℕ, ◌&&◌, ◌++◌, ◌==◌, ◌||◌, ◌∷◌}
use Rattle.std.specs.List.{flat_map, list_any}
use Rattle.std.specs.Str.{bytes_eq}
use Rattle.aft_keeper.specs.declared.keeper.KeeperAnswer.TheVariants.{Absent, Failed, Page}
use Rattle.aft_keeper.specs.declared.keeper.KeeperCall.TheVariants.{Get, Scan}
use Rattle.aft_keeper.specs.declared.keeper.Pair.{Pair}
use Rattle.aft_records.specs.declared.stored.Commit.{Commit}
use Rattle.aft_records.specs.Commits.{same_commit}
use Rattle.aft_records.specs.Limits.{is_key_byte}
use Rattle.aft_model.specs.declared.door.DoorAct.{DoorAct}
use Rattle.aft_model.specs.declared.door.DoorAct.TheVariants.{Call}
use Rattle.aft_model.specs.declared.door.DoorEntry.{DoorEntry}
use Rattle.aft_model.specs.declared.script.Command.{Command}
use Rattle.aft_model.specs.Evidence.{shown_pairs}
use Rattle.aft_model.specs.History.{first_of}
use Rattle.aft_model.specs.Opening.{has_failed}
use Rattle.aft_model.specs.Readings.{has_reading, records_in}
use Rattle.aft_model.specs.Sound.{markers_prefix, records_prefix}
use Rattle.aft_lines.specs.CausesCommits.{is_in_doubt_caused}
use Rattle.aft_lines.specs.CausesRounds.{of_orphans}
use Rattle.aft_lines.specs.CollectCourse.{is_scanned_whole}
use Rattle.aft_lines.specs.LineView.{LineView, door_entries, fixed_for}
use Rattle.aft_lines.specs.OrphanCourse.{versions_prefix}
use Rattle.aft_lines.specs.ScanCourse.{ScanLimit, copy_limit, names_limit, versions_limit}
use Rattle.aft_lines.specs.Turns.{Turn}
use Rattle.aft_model.specs.declared.script.Command.TheVariants as commands

-- ---- too many names

-- what an act lists under a prefix, where it is a page of it
abbrev pub listed_in : List ℕ → DoorAct → List Pair
listed_in prefix (Call node inc (Scan scanned after limit) (Page pairs)) = if bytes_eq prefix scanned then pairs else []
listed_in prefix act = []

-- whether the line's pages show more names of a prefix than are allowed
abbrev pub shows_too_many : ScanLimit → List ℕ → LineView → Bool
shows_too_many limit prefix view = nat_lt limit.most (length (flat_map (λ entry. listed_in prefix entry.act) (door_entries view)))

-- the limit of a line's scan of the records
abbrev pub records_limit : Command → ScanLimit
records_limit commands.Backup = copy_limit
records_limit command = names_limit

-- too many records: the line's pages show one name too many of the records or of the markers
abbrev pub is_too_many_records_caused : LineView → Bool
is_too_many_records_caused view = shows_too_many (records_limit view.command) records_prefix view || shows_too_many names_limit markers_prefix view

-- too many versions: the line's pages show one name too many of the versions of its key
abbrev pub is_too_many_versions_caused : LineView → Bool
is_too_many_versions_caused view = of_orphans (λ key. shows_too_many versions_limit (versions_prefix key) view) view.command

-- ---- damage

-- whether a pair is the record of another commit than the one that is to be settled, if there is one
abbrev pub is_of_another : Option Commit → Pair → Bool
is_of_another None pair = false
is_of_another (Some c) pair = list_any (λ d. not (same_commit c d)) (records_in pair)

-- whether a pair is damage: its name or its bytes have no reading, or it is the record of another commit
abbrev pub is_damage : Option Commit → Pair → Bool
is_damage fixed pair = not (has_reading pair) || is_of_another fixed pair

-- the names of the damage among the pairs that an entry shows
abbrev pub damage_in : Option Commit → DoorEntry → List (List ℕ)
damage_in fixed entry = map (λ pair. pair.name) (filter (is_damage fixed) (shown_pairs entry))

-- whether an act is a page
abbrev pub is_page_act : DoorAct → Bool
is_page_act (Call node inc (Scan prefix after limit) answer) = true
is_page_act act = false

-- the name of a version that an act asked for and didn't find
abbrev pub unfound_in : DoorAct → List (List ℕ)
unfound_in (Call node inc (Get name) Absent) = name ∷ []
unfound_in act = []

-- the names of the damage that an entry shows a line, by its command: a round that deletes orphans doesn't judge the pages that it was shown, and a copy misses each version that it doesn't find
abbrev pub damage_for : Command → Option Commit → DoorEntry → List (List ℕ)
damage_for (commands.Orphans key) fixed entry = if is_page_act entry.act then [] else damage_in fixed entry
damage_for commands.Backup fixed entry = damage_in fixed entry ++ unfound_in entry.act
damage_for command fixed entry = damage_in fixed entry

-- the names of the damage that a line was shown, in order
abbrev pub damaged_names : LineView → List (List ℕ)
damaged_names view = flat_map (damage_for view.command (fixed_for view.command view)) (door_entries view)

-- a name as a reply writes it: a byte outside 33 to 126 is written `?`
abbrev pub written_name : List ℕ → List ℕ
written_name name = map (λ byte. if is_key_byte byte then byte else 63) name

-- whether a name, if there is one, is written so
abbrev pub is_written_name : List ℕ → Option (List ℕ) → Bool
is_written_name written None = false
is_written_name written (Some name) = bytes_eq written (written_name name)

-- damaged: the first damage that the line was shown has this name, and it wasn't shown too many records
abbrev pub is_damaged_caused : List ℕ → LineView → Bool
is_damaged_caused name view = is_written_name name (first_of (damaged_names view)) && not (is_too_many_records_caused view)

-- whether a line was shown damage
abbrev pub is_damaged_at_all : LineView → Bool
is_damaged_at_all view = not (length (damaged_names view) == 0) && not (is_too_many_records_caused view)

-- ---- a failed call

-- whether an act is a page that failed
abbrev pub is_failed_page : DoorAct → Bool
is_failed_page (Call node inc (Scan prefix after limit) Failed) = true
is_failed_page act = false

-- whether the turns of a collection came through both its scan runs
abbrev pub came_through : List Turn → Bool
came_through [] = false
came_through (turn ∷ line) = is_scanned_whole line

-- whether a failed call of a line is told as such, by its command: of a commit where it is neither in doubt about its record nor shown damage, of a collection where it didn't come through its scan runs, since behind them it is a verdict, and of a round that deletes orphans where a page failed
abbrev pub tells_fault : Command → LineView → Bool
tells_fault commands.Commit view = has_failed (door_entries view) && not (is_in_doubt_caused view || is_damaged_at_all view)
tells_fault commands.Collect view = has_failed (door_entries view) && not (came_through view.turns)
tells_fault (commands.Orphans key) view = list_any (λ entry. is_failed_page entry.act) (door_entries view)
tells_fault command view = has_failed (door_entries view)

-- a store fault: a call of the line failed, and no other reply tells of it
abbrev pub is_store_fault_caused : LineView → Bool
is_store_fault_caused view = tells_fault view.command view
