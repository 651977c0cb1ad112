-- A line as it ran: what it asked, what its client held before it, and the turns that it made.
use Rattle.std.specs.Prelude.{Bool, List, None, Option, Some, [], drop, false, if◌then◌else◌, not, suc, take, true, ℕ, ◌&&◌, ◌++◌, ◌-◌, ◌==◌, ◌||◌, ◌∷◌}
use Rattle.std.specs.List.{flat_map, last_or, list_all, list_any, range_with_len}
use Rattle.aft_records.specs.declared.stored.Commit.{Commit}
use Rattle.aft_model.specs.declared.caller.Attempt.{Attempt}
use Rattle.aft_model.specs.declared.caller.By.{By}
use Rattle.aft_model.specs.declared.caller.Hold.{Hold}
use Rattle.aft_model.specs.declared.door.DoorEntry.{DoorEntry}
use Rattle.aft_model.specs.declared.node.NodeEntry.{NodeEntry}
use Rattle.aft_model.specs.declared.script.Command.{Command}
use Rattle.aft_model.specs.Attempts.{attempt_state, fixed_commit}
use Rattle.aft_model.specs.History.{first_of}
use Rattle.aft_model.specs.NodeSights.{is_fenced}
use Rattle.aft_model.specs.NodeState.{NodeState, Service, boots, newest, part, serves, service}
use Rattle.aft_model.specs.Replies.{is_silent}
use Rattle.aft_lines.specs.Asked.{Settings}
use Rattle.aft_lines.specs.CourseWords.{Ends}
use Rattle.aft_lines.specs.LinePosts.{AtBox}
use Rattle.aft_lines.specs.Partings.{at_some_time, need_not_give_up, span_between}
use Rattle.aft_lines.specs.Turns.{AtDoor, AtNode, Turn}
use Rattle.aft_model.specs.declared.script.Command.TheVariants as commands

-- a line of a run as it ran: who asks what, and what its client held before; the settings, and the time of the clock, if it tells one; the line's turns, and what it did at the boxes; how much of the door's history its client's answer before had seen, or where it had none, the last boot of the opening; the door's history up to the line's last front; the histories of the nodes, which only what a collection asks of them reads; and where lines run whole, the lines that ran before it
pub record LineView : Type 0 where
  pub by : By
  pub command : Command
  pub hold : Hold
  pub settings : Settings
  pub clock : Option ℕ
  pub turns : List Turn
  pub posts : List AtBox
  pub since : ℕ
  pub seen : List DoorEntry
  pub nodes : List (List NodeEntry)
  pub before : Option (List By)

-- what a turn did at the door, as an entry of its line
abbrev pub door_entry_in : By → Turn → List DoorEntry
door_entry_in by (AtDoor place act) = record { by = by; act = act } ∷ []
door_entry_in by turn = []

-- what a line did at the door
abbrev pub door_entries : LineView → List DoorEntry
door_entries view = flat_map (door_entry_in view.by) view.turns

-- whether some prefix of the door's history passes a test, of those that are at least and at most so long
abbrev pub some_prefix : (List DoorEntry → Bool) → ℕ → ℕ → List DoorEntry → Bool
some_prefix test shortest longest history = list_any (λ seen. test (take seen history)) (range_with_len shortest (suc longest - shortest))

-- ---- its turns at its node

-- a turn at a node: the node's history before, and the entry
pub record NodeTurn : Type 0 where
  pub before : List NodeEntry
  pub entry : NodeEntry

abbrev pub node_turn_in : Turn → List NodeTurn
node_turn_in (AtNode node before entry) = record { before = before; entry = entry } ∷ []
node_turn_in turn = []

-- a line's turns at nodes, in order
abbrev pub node_turns : LineView → List NodeTurn
node_turns view = flat_map node_turn_in view.turns

-- the first and the last of them
abbrev pub first_node_turn : LineView → Option NodeTurn
first_node_turn view = first_of (node_turns view)

abbrev pub last_node_turn : LineView → Option NodeTurn
last_node_turn view = last_or None (node_turns view)

-- a node's history before a turn and behind it, and how much of the door's history the turn had seen
abbrev pub before_turn : Option NodeTurn → List NodeEntry
before_turn (Some turn) = turn.before
before_turn None = []

abbrev pub behind_turn : Option NodeTurn → List NodeEntry
behind_turn (Some turn) = turn.before ++ turn.entry ∷ []
behind_turn None = []

abbrev pub front_of : Option NodeTurn → ℕ
front_of (Some turn) = turn.entry.front
front_of None = 0

-- the history of a line's node behind the line's first turn there
abbrev pub behind_first : LineView → List NodeEntry
behind_first view = behind_turn (first_node_turn view)

-- how much of the door's history a line's first turn at a node had seen, and its last one
abbrev pub first_front : LineView → ℕ
first_front view = front_of (first_node_turn view)

abbrev pub last_front : LineView → ℕ
last_front view = front_of (last_node_turn view)

-- whether a line went on from its first turn at a node, which answered nothing
abbrev pub is_silent_turn : Option NodeTurn → Bool
is_silent_turn (Some turn) = is_silent turn.entry.answer
is_silent_turn None = false

abbrev pub went_on : LineView → Bool
went_on view = is_silent_turn (first_node_turn view)

-- ---- what it found

-- the service that a line found: the one in which its node was at the line's first turn there
abbrev pub found_service : LineView → Option Service
found_service view = service (before_turn (first_node_turn view))

-- the newest incarnation of a line's node at the line's first turn there, which may have begun to boot it
abbrev pub newest_here : LineView → ℕ
newest_here view = newest (behind_first view)

-- whether an attempt is held, a node serves as its incarnation, and the attempt passes a test in that service
abbrev pub is_served : (Attempt → Service → Bool) → Option Attempt → Option Service → Bool
is_served test (Some a) (Some serving) = a.inc == serving.inc && test a serving
is_served test a serving = false

-- whether a line found the attempt that its client holds in the service of its incarnation, and it passes a test there
abbrev pub finds : (Attempt → Service → Bool) → LineView → Bool
finds test view = is_served test view.hold.attempt (found_service view)

-- the commit that an attempt has fixed in a part, if it is held and has
abbrev pub fixed_by : Option Attempt → List NodeEntry → Option Commit
fixed_by (Some a) part = fixed_commit (attempt_state a part)
fixed_by None part = None

-- the commit that a commit or an abort is to store or to settle: the one that its attempt has fixed behind the line's first turn
abbrev pub fixed_for : Command → LineView → Option Commit
fixed_for commands.Commit view = fixed_by view.hold.attempt (part (behind_first view))
fixed_for commands.Abort view = fixed_by view.hold.attempt (part (behind_first view))
fixed_for command view = None

-- whether a line has such a commit, and it passes a test
abbrev pub is_fixed : (Commit → Bool) → Option Commit → Bool
is_fixed test (Some c) = test c
is_fixed test None = false

abbrev pub is_for_fixed : (Commit → Bool) → LineView → Bool
is_for_fixed test view = is_fixed test (fixed_for view.command view)

-- whether a command is a commit, and whether it is an abort
abbrev pub is_commit : Command → Bool
is_commit commands.Commit = true
is_commit command = false

abbrev pub is_abort : Command → Bool
is_abort commands.Abort = true
is_abort command = false

-- ---- how it may end

-- the history of a node, by its number, if it has one
abbrev pub history_at : ℕ → List (List NodeEntry) → List (List NodeEntry)
history_at node nodes = if node == 0 then [] else take 1 (drop (node - 1) nodes)

-- whether a node need not have given a commit up when it was asked between two rests of a line
abbrev pub is_kept_between : LineView → ℕ → Commit → List Turn → List Turn → Bool
is_kept_between view node c begun asked =
    list_all (at_some_time (span_between view.by view.before view.turns begun asked) (need_not_give_up c)) (history_at node view.nodes)

-- whether a node in a state has left an incarnation: it neither serves nor boots it
abbrev pub has_left : ℕ → NodeState → Bool
has_left inc state = not (serves inc state || boots inc state)

-- what the ends of a line rest on
abbrev pub ends_of : LineView → Ends
ends_of view = record { seen = view.seen; is_shut_out = λ who front. is_fenced who (take front view.seen); is_left = has_left; is_kept = is_kept_between view }
