-- The causes of what the rounds answer: announcements, deliveries, local collections, and the fault manager's.
use Rattle.std.specs.Prelude.{Bool, List, None, Option, Some, [], drop, false, filter, is_some, length, not, take, true, ℕ, ◌&&◌, ◌==◌, ◌||◌, ◌∷◌}
use Rattle.std.specs.List.{flat_map, list_all, list_any}
use Rattle.aft_model.specs.declared.caller.By.{By}
use Rattle.aft_model.specs.declared.door.DoorAct.TheVariants.{Up}
use Rattle.aft_model.specs.declared.door.DoorEntry.{DoorEntry}
use Rattle.aft_model.specs.declared.node.NodeAct.{NodeAct}
use Rattle.aft_model.specs.declared.office.OfficeAct.{OfficeAct}
use Rattle.aft_model.specs.declared.script.Command.{Command}
use Rattle.aft_model.specs.Claims.{claim_place, forgotten}
use Rattle.aft_model.specs.Known.{droppable}
use Rattle.aft_model.specs.Membership.{incarnation, up_now}
use Rattle.aft_model.specs.NodeRules.{Counts, counts}
use Rattle.aft_model.specs.NodeState.{Service, in_service}
use Rattle.aft_model.specs.Office.{ManagerRound, round_in, runs}
use Rattle.aft_model.specs.ScanRun.{same_line}
use Rattle.aft_lines.specs.BackupCourse.{copier, copy_of_line}
use Rattle.aft_lines.specs.CourseWords.{Ends}
use Rattle.aft_lines.specs.LinePosts.{refused_ids}
use Rattle.aft_lines.specs.LineView.{LineView, door_entries, ends_of, found_service, node_turns, some_prefix}
use Rattle.aft_lines.specs.OrphanCourse.{FoundEnd, IsDeleted, IsFaulty, IsHeldBack, IsKept, VersionAt, Way, found_on, is_cut_short, round_ways, versions_scan}
use Rattle.aft_lines.specs.Partings.{moment_behind_all, turns_before}
use Rattle.aft_lines.specs.Turns.{AtDoor, AtOffice, Turn, end_front}
use Rattle.aft_model.specs.declared.script.Command.TheVariants as commands
use Rattle.aft_model.specs.declared.node.NodeAct.TheVariants as node_acts
use Rattle.aft_model.specs.declared.office.OfficeAct.TheVariants as office_acts

-- whether a command is an announcement, a delivery, a local collection, a round of the manager or a collection
abbrev pub is_announcement : Command → Bool
is_announcement (commands.Announce node) = true
is_announcement command = false

abbrev pub is_delivery : Command → Bool
is_delivery (commands.Deliver node) = true
is_delivery command = false

abbrev pub is_local : Command → Bool
is_local (commands.Local node) = true
is_local command = false

abbrev pub is_manager : Command → Bool
is_manager commands.Manager = true
is_manager command = false

abbrev pub is_collect : Command → Bool
is_collect commands.Collect = true
is_collect command = false

-- ---- at a node

-- whether an act takes so many commits to announce, and leaves out so many
abbrev pub announces : ℕ → ℕ → NodeAct → Bool
announces kept pruned (node_acts.Announce told left) = kept == length told && pruned == length left
announces kept pruned act = false

-- announced: the line took so many commits to announce and left out so many, and so many ids were refused by boxes
abbrev pub is_announced_caused : ℕ → ℕ → ℕ → LineView → Bool
is_announced_caused kept pruned dropped view =
    is_announcement view.command
    && list_any (λ turn. announces kept pruned turn.entry.act) (node_turns view)
    && dropped == length (refused_ids view.posts)

-- whether an act learns commits of which so many are taken in, superseded and known
abbrev pub counts_as : ℕ → ℕ → ℕ → Counts → Bool
counts_as taken superseded already counts = taken == counts.taken && superseded == counts.superseded && already == counts.already

abbrev pub learns : ℕ → ℕ → ℕ → NodeAct → Service → Bool
learns taken superseded already (node_acts.Learn commits) serving = counts_as taken superseded already (counts serving commits)
learns taken superseded already act serving = false

-- learned: the line learned commits of which so many were taken in, superseded and known
abbrev pub is_learned_caused : ℕ → ℕ → ℕ → LineView → Bool
is_learned_caused taken superseded already view =
    is_delivery view.command
    && list_any (λ turn. in_service (learns taken superseded already turn.entry.act) (found_service view)) (node_turns view)

-- dropped: the node serves, and so many commits are superseded and not pinned there
abbrev pub is_dropped_caused : ℕ → LineView → Bool
is_dropped_caused count view = is_local view.command && in_service (λ serving. count == length (droppable serving)) (found_service view)

-- ---- at the office

-- the acts of a line at the office
abbrev pub office_act_in : Turn → List OfficeAct
office_act_in (AtOffice before entry) = entry.act ∷ []
office_act_in turn = []

abbrev pub office_acts_of : LineView → List OfficeAct
office_acts_of view = flat_map office_act_in view.turns

-- whether an act notes what was posted
abbrev pub is_posted : OfficeAct → Bool
is_posted (office_acts.Posted ids) = true
is_posted act = false

-- whether a round heard of so many commits and missed so many
abbrev pub rounds_up : ℕ → ℕ → ManagerRound → Bool
rounds_up heard missed round = heard == length round.heard && missed == length round.missed

-- a manager's round: the line heard of so many commits and missed so many, and noted what it posted
abbrev pub is_managed_caused : ℕ → ℕ → LineView → Bool
is_managed_caused heard missed view =
    is_manager view.command && list_any is_posted (office_acts_of view) && list_any (rounds_up heard missed) (flat_map round_in (office_acts_of view))

-- whether a collection runs at the office before a turn
abbrev pub finds_running : Turn → Bool
finds_running (AtOffice before entry) = is_some (runs before)
finds_running turn = false

-- whether a collection runs before the first of some turns
abbrev pub begins_beside : List Turn → Bool
begins_beside [] = false
begins_beside (turn ∷ turns) = finds_running turn

-- collecting: a collection runs at the line's first turn
abbrev pub is_collecting_caused : LineView → Bool
is_collecting_caused view = is_collect view.command && begins_beside view.turns

-- ---- orphan versions

-- whether a command deletes the orphans of a key that passes a test
abbrev pub of_orphans : (List ℕ → Bool) → Command → Bool
of_orphans test (commands.Orphans key) = test key
of_orphans test command = false

-- how many versions of a round came to an end
abbrev pub is_end_deleted : FoundEnd → Bool
is_end_deleted IsDeleted = true
is_end_deleted end = false

abbrev pub is_end_kept : FoundEnd → Bool
is_end_kept IsKept = true
is_end_kept end = false

abbrev pub is_end_held : FoundEnd → Bool
is_end_held IsHeldBack = true
is_end_held end = false

abbrev pub is_end_faulty : FoundEnd → Bool
is_end_faulty IsFaulty = true
is_end_faulty end = false

abbrev pub count_of : (FoundEnd → Bool) → Way → ℕ
count_of test way = length (filter test way.ends)

-- whether the claim by which a UUID is held, if it is, is another line's
abbrev pub is_claim_of_other : By → List DoorEntry → Option ℕ → Bool
is_claim_of_other by history None = false
is_claim_of_other by history (Some place) = list_all (λ entry. not (same_line by entry.by)) (take 1 (drop place history))

-- whether a UUID is held by another line's claim, or is forgotten
abbrev pub is_taken_up : By → List ℕ → List DoorEntry → Bool
is_taken_up by uuid history = is_claim_of_other by history (claim_place uuid history) || forgotten uuid history

-- whether a version that was passed over was so rightly: at some time between the scan's last page and the answer its UUID was held by another line's claim, or was forgotten
abbrev pub is_end_right : LineView → ℕ → VersionAt → FoundEnd → Bool
is_end_right view scanned_by one end = not (is_end_held end) || some_prefix (is_taken_up view.by one.id.uuid) scanned_by (end_front view.turns) view.seen

-- the same of versions and their ends, one by one
abbrev pub are_ends_right : LineView → ℕ → List VersionAt → List FoundEnd → Bool
are_ends_right view scanned_by found [] = true
are_ends_right view scanned_by [] (end ∷ ends) = false
are_ends_right view scanned_by (one ∷ found) (end ∷ ends) = is_end_right view scanned_by one end && are_ends_right view scanned_by found ends

-- whether a way of a round counts so many of each, and passed versions over rightly
abbrev pub counts_way : ℕ → ℕ → ℕ → ℕ → LineView → List ℕ → Way → Bool
counts_way deleted kept held fault view key way =
    deleted == count_of is_end_deleted way && kept == count_of is_end_kept way && held == count_of is_end_held way && fault == count_of is_end_faulty way
    && are_ends_right view (moment_behind_all (turns_before (versions_scan key view.turns).behind view.turns)) (found_on (versions_scan key view.turns).listed) way.ends

-- orphans: the scan of the key's versions was whole, and so many of them were deleted, kept, passed over, and met a failed call
abbrev pub is_orphans_caused : ℕ → ℕ → ℕ → ℕ → LineView → Bool
is_orphans_caused deleted kept held fault view =
    of_orphans (λ key. (versions_scan key view.turns).is_whole
    && list_any (λ way. not (is_cut_short way) && counts_way deleted kept held fault view key way) (round_ways key (ends_of view) view.turns)) view.command

-- ---- copies

-- whether a command is a copy
abbrev pub is_backup : Command → Bool
is_backup commands.Backup = true
is_backup command = false

-- whether a copy that came up took so many commits and markers, and all that it was to take
abbrev pub is_copied_by : ℕ → ℕ → Ends → List Turn → Bool
is_copied_by taken marked ends (AtDoor place (Up node inc) ∷ line) =
    (copy_of_line ends (record { who = incarnation node inc; place = place }) line).is_whole
    && taken == length (copy_of_line ends (record { who = incarnation node inc; place = place }) line).taken
    && marked == (copy_of_line ends (record { who = incarnation node inc; place = place }) line).marked
is_copied_by taken marked ends line = false

-- copied: the line's copier took so many commits and markers, and each version of the commits
abbrev pub is_copied_caused : ℕ → ℕ → LineView → Bool
is_copied_caused taken marked view = is_backup view.command && is_copied_by taken marked (ends_of view) view.turns

-- copying: the line did nothing at the door, and a copier was up when it began
abbrev pub is_copying_caused : LineView → Bool
is_copying_caused view =
    is_backup view.command
    && length (door_entries view) == 0
    && some_prefix (λ history. is_some (up_now copier history)) view.since (end_front view.turns) view.seen
