-- The course of a copy of the store: the copier, which is node 9, comes up, scans the records and the markers, gets each version of the commits that it takes, and is fenced whatever came of its calls.
use Rattle.std.specs.Prelude.{Bool, List, Option, Some, [], false, filter, if◌then◌else◌, length, map, not, suc, take, true, ℕ, ◌&&◌, ◌++◌, ◌==◌, ◌||◌, ◌∷◌}
use Rattle.std.specs.List.{flat_map, fold, list_any}
use Rattle.std.specs.Str.{bytes_eq}
use Rattle.aft_id.specs.declared.txn_id.TxnId.{TxnId}
use Rattle.aft_keeper.specs.declared.keeper.KeeperAnswer.{KeeperAnswer}
use Rattle.aft_keeper.specs.declared.keeper.KeeperCall.TheVariants.{Get}
use Rattle.aft_keeper.specs.declared.keeper.Pair.{Pair}
use Rattle.aft_keeper.specs.Contents.{name_lt, with_pair}
use Rattle.aft_records.specs.declared.stored.Commit.{Commit}
use Rattle.aft_records.specs.declared.stored.Marker.TheVariants.{Done}
use Rattle.aft_records.specs.Rows.{marker_row}
use Rattle.aft_model.specs.declared.door.DoorAct.TheVariants.{Call, Fence, Up}
use Rattle.aft_model.specs.declared.office.OfficeAct.{OfficeAct}
use Rattle.aft_model.specs.declared.reply.Reply.{Reply}
use Rattle.aft_model.specs.Cut.{is_part_of, is_taken}
use Rattle.aft_model.specs.Evidence.{pairs_in}
use Rattle.aft_model.specs.Membership.{Incarnation, incarnation, next_inc, same_incarnation}
use Rattle.aft_model.specs.Readings.{id_of_marker, is_version_at, marker_name, markers_in, version_name}
use Rattle.aft_model.specs.Sound.{markers_prefix, recorded, records_prefix}
use Rattle.aft_lines.specs.CourseWords.{Ends, ends_at_office, found_pair, office_answers, office_lacks_memory, tells_no_memory}
use Rattle.aft_lines.specs.OrphanCourse.{VersionAt}
use Rattle.aft_lines.specs.Partings.{turns_before}
use Rattle.aft_lines.specs.ScanCourse.{Scanned, copy_limit, names_limit, scanned}
use Rattle.aft_lines.specs.Turns.{AtDoor, Turn}
use Rattle.aft_model.specs.declared.reply.Reply.TheVariants as replies

-- the number of the copier
abbrev pub copier : ℕ
copier = 9

-- a copy on its way: its incarnation, and the place at which it came up
pub record Copier : Type 0 where
  pub who : Incarnation
  pub place : ℕ

-- how far a copy came: how many commits and markers it took, whether all was copied, and the turns behind its calls
pub record Copy : Type 0 where
  pub taken : List Commit
  pub marked : ℕ
  pub is_whole : Bool
  pub behind : List Turn

abbrev pub stopped_copy : List Turn → Copy
stopped_copy line = record { taken = []; marked = 0; is_whole = false; behind = line }

-- the scans of a copy: that of records, and that of markers behind it
abbrev pub copied_records : Copier → List Turn → Scanned
copied_records by line = scanned copy_limit by.who records_prefix line

abbrev pub copied_markers : Copier → List Turn → Scanned
copied_markers by line = scanned names_limit by.who markers_prefix (copied_records by line).behind

-- the place at which the turns that aren't left have ended: behind the last entry at the door before these
abbrev pub last_door_place : ℕ → List Turn → ℕ
last_door_place before [] = before
last_door_place before (AtDoor place act ∷ line) = last_door_place place line
last_door_place before (turn ∷ line) = last_door_place before line

-- commits in the order of their UUIDs with one more
abbrev pub with_uuid_order : List Commit → Commit → List Commit
with_uuid_order [] c = c ∷ []
with_uuid_order (other ∷ commits) c = if name_lt c.id.uuid other.id.uuid then c ∷ other ∷ commits else other ∷ with_uuid_order commits c

-- the commits that a copy takes, in the order of their UUIDs, by what it was shown and the history behind its last page of markers
abbrev pub taken_commits : Ends → Copier → List Turn → List Commit
taken_commits ends by line =
    fold with_uuid_order [] (filter (is_taken by.place (copied_markers by line).listed (take (suc (last_door_place by.place (turns_before (copied_markers by line).behind line))) ends.seen))
    (recorded (copied_records by line).listed))

-- the names of the versions of commits, commit by commit in key order
abbrev pub names_to_copy : List Commit → List VersionAt
names_to_copy commits = flat_map (λ c. map (λ key. record { key = key; id = c.id }) c.keys) commits

-- whether a get found a version of a key and id
abbrev pub finds_copy : VersionAt → KeeperAnswer → Bool
finds_copy one answer = list_any (is_version_at one.key one.id) (found_pair (version_name one.key one.id) answer)

-- the gets of versions by an incarnation, up to the first that doesn't find its version, or makes no entry since memory was wanting: whether all were found, and the turns behind them
pub record Got : Type 0 where
  pub is_whole : Bool
  pub behind : List Turn

abbrev pub copies : Incarnation → List VersionAt → List Turn → Got
copies who [] line = record { is_whole = true; behind = line }
copies who (one ∷ more) (AtDoor place (Call node inc (Get name) answer) ∷ line) =
    if same_incarnation who (incarnation node inc) && bytes_eq (version_name one.key one.id) name
    then (if finds_copy one answer then copies who more line else record { is_whole = false; behind = line })
    else record { is_whole = false; behind = AtDoor place (Call node inc (Get name) answer) ∷ line }
copies who (one ∷ more) line = record { is_whole = false; behind = line }

-- the copy of a line behind its coming up
abbrev pub behind_markers : Ends → Copier → List Turn → Copy
behind_markers ends by line = record {
  taken = taken_commits ends by line;
  marked = length (flat_map markers_in (copied_markers by line).listed);
  is_whole = (copies by.who (names_to_copy (taken_commits ends by line)) (copied_markers by line).behind).is_whole;
  behind = (copies by.who (names_to_copy (taken_commits ends by line)) (copied_markers by line).behind).behind;
}

abbrev pub copy_of_line : Ends → Copier → List Turn → Copy
copy_of_line ends by line =
    if not (copied_records by line).is_whole then stopped_copy (copied_records by line).behind
    else if not (copied_markers by line).is_whole then stopped_copy (copied_markers by line).behind
    else behind_markers ends by line

-- whether an answer tells what was copied
abbrev pub tells_copied : Option Reply → Bool
tells_copied (Some (replies.Copied taken marked)) = true
tells_copied answer = false

-- whether an answer comes alone, and tells what was copied exactly where all was, unless memory was wanting
abbrev pub tells_copy : Bool → OfficeAct → Option Reply → Bool
tells_copy whole act answer = office_answers act answer && (tells_no_memory answer || (if whole then tells_copied answer else not (tells_copied answer)))

-- the fence of the copier, and the answer
abbrev pub fence_course : Incarnation → Bool → List Turn → Bool
fence_course who whole (AtDoor place (Fence node inc) ∷ line) = same_incarnation who (incarnation node inc) && ends_at_office (tells_copy whole) line
fence_course who whole line = false

-- whether an answer tells that another copy is being made, or that memory was wanting
abbrev pub tells_not_begun : OfficeAct → Option Reply → Bool
tells_not_begun act (Some replies.Copying) = office_answers act (Some replies.Copying)
tells_not_begun act answer = office_lacks_memory act answer

-- whether a history has come to where a copier of this incarnation may come up: one more than the greatest of its that was fenced
abbrev pub is_next_copier : Ends → ℕ → Incarnation → Bool
is_next_copier ends place who = who.node == copier && who.inc == next_inc copier (take place ends.seen)

-- behind its coming up, a copy to its end
abbrev pub copy_course : Ends → Copier → List Turn → Bool
copy_course ends by line = fence_course by.who (copy_of_line ends by line).is_whole (copy_of_line ends by line).behind

-- the course of a copy
abbrev pub backup_course : Ends → List Turn → Bool
backup_course ends (AtDoor place (Up node inc) ∷ line) = is_next_copier ends place (incarnation node inc) && copy_course ends (record { who = incarnation node inc; place = place }) line
backup_course ends line = ends_at_office tells_not_begun line

-- ---- what was copied

-- pairs ascending by name with one more, in place of that of its name
abbrev pub with_name_order : List Pair → Pair → List Pair
with_name_order pairs pair = with_pair pair.name pair.bytes pairs

-- the short marker of an id, as a pair
abbrev pub short_pair : TxnId → Pair
short_pair id = record { name = marker_name id.uuid; bytes = marker_row (Done id) }

-- what the turns of a copy were shown
abbrev pub shown_in_turn : Turn → List Pair
shown_in_turn (AtDoor place act) = pairs_in act
shown_in_turn turn = []

-- the copy that a copier's turns behind its coming up made: each record that it took with the versions that it was shown, and a short marker for each marker, ascending by name
abbrev pub copied_pairs : Ends → Copier → List Turn → List Pair
copied_pairs ends by line =
    fold with_name_order [] (filter (is_part_of (taken_commits ends by line)) (flat_map shown_in_turn line) ++ map (λ marker. short_pair (id_of_marker marker)) (flat_map markers_in (copied_markers by line).listed))

-- the copy that a line made
abbrev pub copy_of : Ends → List Turn → List Pair
copy_of ends (AtDoor place (Up node inc) ∷ line) = copied_pairs ends (record { who = incarnation node inc; place = place }) line
copy_of ends line = []
