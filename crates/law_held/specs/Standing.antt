-- How lines that move attempts stand at the end of a run so far, and what each of their turns at a node finds.
use Rattle.std.specs.Prelude.{Bool, IsTrue, List, None, Option, Some, [], false, not, take, true, ℕ, ◌&&◌, ◌==◌, ◌||◌}
use Rattle.aft_model.specs.declared.caller.Attempt.{Attempt}
use Rattle.aft_model.specs.declared.door.DoorAct.{DoorAct}
use Rattle.aft_model.specs.declared.door.DoorAct.TheVariants.{Claim}
use Rattle.aft_model.specs.declared.door.DoorEntry.{DoorEntry}
use Rattle.aft_model.specs.declared.node.NodeEntry.{NodeEntry}
use Rattle.aft_model.specs.declared.script.Command.{Command}
use Rattle.aft_model.specs.declared.script.Command.TheVariants.{Get}
use Rattle.aft_model.specs.Attempts.{attempt_state, uuid_of}
use Rattle.aft_model.specs.Claims.{claim_place, holds}
use Rattle.aft_model.specs.History.{each_after}
use Rattle.aft_model.specs.Membership.{incarnation, the_office}
use Rattle.aft_model.specs.NodeSights.{is_fenced}
use Rattle.aft_model.specs.NodeState.{node_state, part, serves}
use Rattle.aft_lines.specs.Advance.{leads_to}
use Rattle.aft_lines.specs.Asked.{Asked, Ran}
use Rattle.aft_lines.specs.CourseWords.{caller_of}
use Rattle.aft_lines.specs.Holding.{has_it_open, held_at_position}
use Rattle.aft_lines.specs.LineView.{LineView, ends_of}
use Rattle.aft_lines.specs.Lines.{node_numbers}
use Rattle.aft_lines.specs.Progress.{AtDesk, Progress}
use Rattle.aft_lines.specs.RunsSoFar.{position_of, same_answer}
use Rattle.aft_lines.specs.Turns.{AtNode, Turn}
use Rattle.aft_lines.specs.Views.{each_view}
use Rattle.law_holders.specs.Rows.{is_of_attempt}
use Rattle.law_steps.specs.Histories.{history_in}
use Rattle.law_claims.specs.Doing.{attempt_at, has_claim_at, moves}
use Rattle.law_held.specs.Fetching.{Fetch, fetch_at}

-- ---- claims

-- whether who claims a UUID isn't its holder already
abbrev pub is_new_claim : List DoorEntry → DoorAct → Bool
is_new_claim history (Claim uuid node inc) = not (holds (incarnation node inc) uuid history)
is_new_claim history act = true

-- a history in which each claim is new
abbrev pub ClaimsAreNew : List DoorEntry → Type 0
ClaimsAreNew history = IsTrue (each_after (λ before entry. is_new_claim before entry.act) [] history)

-- ---- at the end of a run so far

-- what a node has done in its service, at the end
abbrev pub part_of_node : ℕ → Ran → List NodeEntry
part_of_node node ran = part (history_in node 1 ran.trace.nodes)

-- whether an attempt that a position moves does what the position asks, and holds its UUID just where the line has claimed it and not let it go, unless its incarnation was fenced
abbrev pub stands_with : Ran → Progress → Option Attempt → Bool
stands_with ran position None = true
stands_with ran position (Some a) =
    is_fenced (caller_of a) ran.trace.door
    || moves position a (attempt_state a (part_of_node a.node ran)) (uuid_of a (part_of_node a.node ran))
    && same_answer (holds (caller_of a) (uuid_of a (part_of_node a.node ran)) ran.trace.door) (has_claim_at position)

abbrev pub stands_rightly : Ran → Option Progress → Bool
stands_rightly ran None = true
stands_rightly ran (Some position) = stands_with ran position (attempt_at position)

-- whether each begin, forget, commit and abort stands so where it has come
abbrev pub lines_stand : Asked → Ran → Bool
lines_stand asked ran = each_view (λ view. not (is_of_attempt view.command) || stands_rightly ran (position_of view)) asked ran

abbrev pub LinesStand : Asked → Ran → Type 0
LinesStand asked ran = IsTrue (lines_stand asked ran)

-- ---- other lines, at the end

-- whether it is this place
abbrev pub is_at_place : ℕ → Option ℕ → Bool
is_at_place place None = false
is_at_place place (Some other) = place == other

-- whether an attempt for which a line fetches runs and has read the version, while its node serves its incarnation
abbrev pub fetch_stands : Ran → Option Fetch → Bool
fetch_stands ran None = true
fetch_stands ran (Some f) =
    not (serves f.attempt.inc (node_state (history_in f.attempt.node 1 ran.trace.nodes))) || has_it_open f.attempt f.key f.id (part_of_node f.attempt.node ran)

-- the fetch that a line is at, if it has come to one
abbrev pub fetch_in : Option Progress → Option Fetch
fetch_in None = None
fetch_in (Some position) = fetch_at position

-- whether a command is a get
abbrev pub is_get : Command → Bool
is_get (Get key) = true
is_get command = false

-- whether each get that fetches a version stands so
abbrev pub GetsStand : Asked → Ran → Type 0
GetsStand asked ran = IsTrue (each_view (λ view. not (is_get view.command) || fetch_stands ran (fetch_in (position_of view))) asked ran)

-- whether the office holds what a line holds for it, by the place of the line's claim
abbrev pub desk_stands : List DoorEntry → Option AtDesk → Bool
desk_stands door None = true
desk_stands door (Some held) = holds the_office held.uuid door && is_at_place held.place (claim_place held.uuid door)

-- whether the office holds for each line so what it holds
abbrev pub RoundsStand : Asked → Ran → Type 0
RoundsStand asked ran = IsTrue (each_view (λ view. desk_stands ran.trace.door (held_at_position (position_of view))) asked ran)

-- ---- at each turn

-- whether an entry of a node finds the attempt that a position moves as the line left it, unless it has seen that the attempt's incarnation was fenced
abbrev pub finds_attempt : List DoorEntry → Progress → Option Attempt → List NodeEntry → NodeEntry → Bool
finds_attempt door position None history entry = true
finds_attempt door position (Some a) history entry =
    is_fenced (caller_of a) (take entry.front door) || moves position a (attempt_state a (part history)) (uuid_of a (part history))

abbrev pub finds_at : List DoorEntry → Option Progress → Turn → Bool
finds_at door (Some position) (AtNode node history entry) = finds_attempt door position (attempt_at position) history entry
finds_at door position turn = true

-- whether each turn at a node of a line does, where the turns before it have led
abbrev pub finds_all : Ran → LineView → Bool
finds_all ran view = each_after (λ before turn. finds_at ran.trace.door (leads_to view.command (node_numbers view.settings) (ends_of view) before) turn) [] view.turns

-- whether each turn at a node of a begin, a forget, a commit or an abort finds its attempt as the line left it
abbrev pub turns_find : Asked → Ran → Bool
turns_find asked ran = each_view (λ view. not (is_of_attempt view.command) || finds_all ran view) asked ran

abbrev pub TurnsFind : Asked → Ran → Type 0
TurnsFind asked ran = IsTrue (turns_find asked ran)
