-- The causes of what a line answers by whether its node is up, boots or serves.
use Rattle.std.specs.Prelude.{Bool, List, None, Option, Some, drop, false, length, not, take, ℕ, ◌&&◌, ◌==◌, ◌||◌}
use Rattle.std.specs.List.{list_all, list_any}
use Rattle.aft_model.specs.declared.caller.Attempt.{Attempt}
use Rattle.aft_model.specs.declared.caller.By.{By}
use Rattle.aft_model.specs.declared.door.DoorEntry.{DoorEntry}
use Rattle.aft_model.specs.declared.node.NodeAct.{NodeAct}
use Rattle.aft_model.specs.declared.script.Command.{Command}
use Rattle.aft_model.specs.Membership.{Incarnation, fenced, ups}
use Rattle.aft_model.specs.NodeSights.{is_fenced}
use Rattle.aft_model.specs.NodeState.{IsBooting, NodeState, boots, in_service, node_state, serves}
use Rattle.aft_model.specs.ScanRun.{is_scan_run, scan_pages}
use Rattle.aft_model.specs.Sound.{records_prefix}
use Rattle.aft_lines.specs.CausesScans.{damaged_names, is_too_many_records_caused}
use Rattle.aft_lines.specs.LineView.{LineView, NodeTurn, before_turn, door_entries, first_node_turn, found_service, last_front, newest_here, node_turns, some_prefix, went_on}
use Rattle.aft_model.specs.declared.script.Command.TheVariants as commands
use Rattle.aft_model.specs.declared.node.NodeAct.TheVariants as node_acts

-- ---- down

-- whether a node didn't serve as this incarnation at one of these turns
abbrev pub is_unserved : ℕ → List NodeTurn → Bool
is_unserved inc turns = list_any (λ turn. not (serves inc (node_state turn.before))) turns

-- whether a node didn't boot this incarnation at one of these turns
abbrev pub is_unbooted : ℕ → List NodeTurn → Bool
is_unbooted inc turns = list_any (λ turn. not (boots inc (node_state turn.before))) turns

-- whether a line went on to the door, and its last turn has seen this incarnation fenced
abbrev pub is_shut_out : Incarnation → LineView → Bool
is_shut_out who view = went_on view && is_fenced who (take (last_front view) view.seen)

-- whether an incarnation is that of an attempt, if one is held
abbrev pub is_of_held : Incarnation → Option Attempt → Bool
is_of_held who None = false
is_of_held who (Some a) = who.node == a.node && who.inc == a.inc

-- whether an incarnation is the newest of a line's node, which has this number
abbrev pub is_newest_at : Incarnation → ℕ → LineView → Bool
is_newest_at who node view = who.node == node && who.inc == newest_here view

-- whether a node doesn't serve as an incarnation at a turn of a line, or it was fenced before the line's calls
abbrev pub is_lost : Incarnation → LineView → Bool
is_lost who view = is_unserved who.inc (node_turns view) || is_shut_out who view

-- the cause that a node is down, by the command. Which incarnation is meant: that of the held attempt, or the newest; a command that speaks of an attempt has first to hold one. At which turns the node must serve: at each, but only at the first of an announcement, and in a start it must boot at the second. A fence counts only where a line goes on to calls at the door
abbrev pub is_down_by : Incarnation → Command → LineView → Bool
is_down_by who (commands.Begin uuid node) view = is_newest_at who node view && is_lost who view
is_down_by who (commands.Put key value) view = is_of_held who view.hold.attempt && is_unserved who.inc (node_turns view)
is_down_by who (commands.Get key) view = is_of_held who view.hold.attempt && is_lost who view
is_down_by who commands.Commit view = is_of_held who view.hold.attempt && is_lost who view
is_down_by who commands.Abort view = is_of_held who view.hold.attempt && is_lost who view
is_down_by who (commands.Crash node) view = false
is_down_by who (commands.Start node) view = is_newest_at who node view && (is_unbooted who.inc (drop 1 (node_turns view)) || is_shut_out who view)
is_down_by who (commands.Announce node) view = is_newest_at who node view && is_unserved who.inc (take 1 (node_turns view))
is_down_by who (commands.Deliver node) view = is_newest_at who node view && is_unserved who.inc (node_turns view)
is_down_by who (commands.Local node) view = is_newest_at who node view && is_unserved who.inc (node_turns view)
is_down_by who commands.Manager view = false
is_down_by who commands.Collect view = false
is_down_by who (commands.Forget uuid node) view = is_newest_at who node view && is_lost who view
is_down_by who (commands.Orphans key) view = false
is_down_by who commands.Backup view = false

-- node down: this incarnation doesn't serve, doesn't boot, or was fenced
abbrev pub is_node_down_caused : Incarnation → LineView → Bool
is_node_down_caused who view = is_down_by who view.command view

-- ---- crash

-- whether a command is the crash of a node
abbrev pub crashes : ℕ → Command → Bool
crashes node (commands.Crash asked) = node == asked
crashes node command = false

-- crashed: the line fenced this incarnation
abbrev pub is_crashed_caused : Incarnation → LineView → Bool
is_crashed_caused who view = crashes who.node view.command && is_fenced who (door_entries view)

-- whether no incarnation of a node is up
abbrev pub is_none_up : ℕ → List DoorEntry → Bool
is_none_up node history = list_all (λ who. not (who.node == node)) (ups history)

-- how much of the door's history had been made at least when a crash found no incarnation up: what its client's answer before had seen, and where lines run whole, all that the crash has seen
abbrev pub earliest : Option (List By) → LineView → ℕ
earliest None view = view.since
earliest (Some lines) view = last_front view

-- not up: the line fenced nothing, and at some time since its client's answer before no incarnation of the node was up
abbrev pub is_not_up_caused : ℕ → LineView → Bool
is_not_up_caused node view =
    crashes node view.command
    && length (fenced (door_entries view)) == 0
    && some_prefix (is_none_up node) (earliest view.before view) (last_front view) view.seen

-- ---- start

-- whether a command is the start of a node
abbrev pub starts : ℕ → Command → Bool
starts node (commands.Start asked) = node == asked
starts node command = false

-- up: the node serves as this incarnation
abbrev pub is_up_caused : Incarnation → LineView → Bool
is_up_caused who view = starts who.node view.command && in_service (λ serving. who.inc == serving.inc) (found_service view)

-- whether a boot of this incarnation runs
abbrev pub is_boot_running : ℕ → NodeState → Bool
is_boot_running inc (IsBooting booting running) = inc == booting && running
is_boot_running inc state = false

-- booting: a boot of this incarnation runs at the node
abbrev pub is_booting_caused : Incarnation → LineView → Bool
is_booting_caused who view = starts who.node view.command && is_boot_running who.inc (node_state (before_turn (first_node_turn view)))

-- whether a turn begins the boot of this incarnation
abbrev pub begins_boot : ℕ → NodeAct → Bool
begins_boot inc (node_acts.Booting booting) = inc == booting
begins_boot inc act = false

abbrev pub is_boot_begun : ℕ → Option NodeTurn → Bool
is_boot_begun inc None = false
is_boot_begun inc (Some turn) = begins_boot inc turn.entry.act

-- started: the line began the boot of this incarnation, whose scan run of the records was whole, and showed neither damage nor too many
abbrev pub is_started_caused : Incarnation → LineView → Bool
is_started_caused who view =
    starts who.node view.command
    && is_boot_begun who.inc (first_node_turn view)
    && is_scan_run (scan_pages who view.by records_prefix (door_entries view))
    && length (damaged_names view) == 0
    && not (is_too_many_records_caused view)
