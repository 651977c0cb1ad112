-- The turns of a line in the order in which they were made: each list's in its order, and the lists put together by moments.
use Rattle.std.specs.Prelude.{Bool, IsFalse, List, [], ◌∷◌, ◌&&◌, ◌||◌, ◌==◌, ◌≡◌, false, filter, is_none, nat_le, not, suc, true, ℕ}
use Rattle.std.specs.List.{list_all, list_any}
use Rattle.aft_model.specs.declared.caller.By.{By}
use Rattle.aft_model.specs.declared.node.NodeEntry.{NodeEntry}
use Rattle.aft_model.specs.declared.trace.Trace.{Trace}
use Rattle.aft_lines.specs.Turns.{AtDoor, AtNode, AtOffice, Turn, door_turns, given_in, moment, node_turns, office_turns}

-- whether a turn was made at the door
abbrev pub is_at_door : Turn → Bool
is_at_door (AtDoor place act) = true
is_at_door turn = false

-- whether a turn was made at this node
abbrev pub is_at_node : ℕ → Turn → Bool
is_at_node node (AtNode number before entry) = number == node
is_at_node node turn = false

-- whether a turn was made at this node or one of a greater number
abbrev pub is_at_or_above : ℕ → Turn → Bool
is_at_or_above node (AtNode number before entry) = nat_le node number
is_at_or_above node turn = false

-- whether a turn was made at the office
abbrev pub is_at_office : Turn → Bool
is_at_office (AtOffice before entry) = true
is_at_office turn = false

-- whether two turns were made at one place, and so stand in one list
abbrev pub same_list : Turn → Turn → Bool
same_list (AtDoor place act) other = is_at_door other
same_list (AtNode node before entry) other = is_at_node node other
same_list (AtOffice before entry) other = is_at_office other

-- whether no turn was made before the one that it follows
abbrev pub moments_ascend : List Turn → Bool
moments_ascend [] = true
moments_ascend (turn ∷ []) = true
moments_ascend (turn ∷ next ∷ line) = nat_le (moment turn) (moment next) && moments_ascend (next ∷ line)

-- whether turns of one moment stand in one list
abbrev pub tie_in_one_list : List Turn → Bool
tie_in_one_list line = list_all (λ turn. list_all (λ other. not (moment turn == moment other) || same_list turn other) line) line

-- whether no turn gives an id up
abbrev pub give_nothing_up : List Turn → Bool
give_nothing_up line = list_all (λ turn. is_none (given_in turn)) line

-- some turns at the nodes from this number on are the line's entries there, in their order
abbrev pub AtNodes : By → ℕ → List (List NodeEntry) → List Turn → Type 0
AtNodes by node [] line = IsFalse (list_any (is_at_or_above node) line)
AtNodes by node (history ∷ histories) line = (filter (is_at_node node) line ≡ node_turns by node [] history) × AtNodes by (suc node) histories line

-- some turns are the entries of a line, those of each list in its order
pub record AreEntries (by : By) (trace : Trace) (line : List Turn) : Type 0 where
  pub door : filter is_at_door line ≡ door_turns by 0 trace.door
  pub no_node : IsFalse (list_any (is_at_node 0) line)
  pub nodes : AtNodes by 1 trace.nodes line
  pub office : filter is_at_office line ≡ office_turns by [] trace.office
