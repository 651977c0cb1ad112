-- The turn that a line makes by an entry, and what is asked of it so that it stands behind the line's earlier ones.
use Rattle.std.specs.Prelude.{Bool, List, [], length, nat_le, nat_lt, true, ℕ, ◌&&◌, ◌++◌, ◌||◌, ◌∷◌}
use Rattle.std.specs.List.{list_all}
use Rattle.aft_lines.specs.Asked.{Ran}
use Rattle.aft_lines.specs.Turns.{AtDoor, AtNode, AtOffice, Turn, front_in, turns}
use Rattle.law_turns.specs.Order.{is_at_door, is_at_node}
use Rattle.law_accounts.specs.Adding.{AddsAtBox, AddsAtDoor, AddsAtNode, AddsAtOffice, Added, maker_of, numbered_in}

-- the turn that a line makes by what is added; at a box it makes none
abbrev pub turn_by : Ran → Added → List Turn
turn_by ran (AddsAtDoor entry) = AtDoor (length ran.trace.door) entry.act ∷ []
turn_by ran (AddsAtNode node entry) = AtNode node (numbered_in node 1 ran.trace.nodes) entry ∷ []
turn_by ran (AddsAtOffice entry) = AtOffice ran.trace.office entry ∷ []
turn_by ran (AddsAtBox box entry) = []

-- the turns of the line that adds it, and behind them this one
abbrev pub turned_by : Ran → Added → List Turn
turned_by ran added = turns (maker_of added) ran.trace ++ turn_by ran added

-- whether the node is one of the run's, where something is added at a node
abbrev pub has_node : Ran → Added → Bool
has_node ran (AddsAtNode node entry) = nat_le 1 node && nat_le node (length ran.trace.nodes)
has_node ran added = true

-- ---- a line at one node and the door

-- whether a turn was made at this node or at the door
abbrev pub is_at_node_or_door : ℕ → Turn → Bool
is_at_node_or_door node turn = is_at_door turn || is_at_node node turn

-- whether a front is above the place of a turn at the door, and not below the front of another
abbrev pub is_past : ℕ → Turn → Bool
is_past front (AtDoor place act) = nat_lt place front
is_past front (AtNode node before entry) = nat_le entry.front front
is_past front (AtOffice before entry) = nat_le entry.front front

-- whether what is added comes after some turns: its front is past each, and at the door none had seen more than there is
abbrev pub comes_after : Ran → Added → List Turn → Bool
comes_after ran (AddsAtDoor entry) line = list_all (λ turn. nat_le (front_in turn) (length ran.trace.door)) line
comes_after ran (AddsAtNode node entry) line = list_all (is_past entry.front) line
comes_after ran (AddsAtOffice entry) line = list_all (is_past entry.front) line
comes_after ran (AddsAtBox box entry) line = true
