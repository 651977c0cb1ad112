-- The turns of a line, in order: its entries in the histories of the door, of the nodes and of the office, put together by their fronts and places.
use Rattle.std.specs.Prelude.{Bool, List, None, Option, Some, [], false, if◌then◌else◌, nat_lt, suc, ℕ, ◌&&◌, ◌++◌, ◌+◌, ◌==◌, ◌||◌, ◌∷◌}
use Rattle.std.specs.List.{fold}
use Rattle.aft_id.specs.declared.txn_id.TxnId.{TxnId}
use Rattle.aft_id.specs.TxnId.{id_lt}
use Rattle.aft_model.specs.declared.caller.By.{By}
use Rattle.aft_model.specs.declared.door.DoorAct.{DoorAct}
use Rattle.aft_model.specs.declared.door.DoorEntry.{DoorEntry}
use Rattle.aft_model.specs.declared.node.NodeAct.{NodeAct}
use Rattle.aft_model.specs.declared.node.NodeAct.TheVariants.{GiveUp}
use Rattle.aft_model.specs.declared.node.NodeEntry.{NodeEntry}
use Rattle.aft_model.specs.declared.office.OfficeEntry.{OfficeEntry}
use Rattle.aft_model.specs.declared.reply.Reply.{Reply}
use Rattle.aft_model.specs.declared.trace.Trace.{Trace}
use Rattle.aft_model.specs.ScanRun.{same_line}

-- a turn that made an entry: at the door, with the place of the entry; at a node, with its number and its history before; or at the office, with its history before
pub data Turn : Type 0 where
  AtDoor : ℕ → DoorAct → Turn
  AtNode : ℕ → List NodeEntry → NodeEntry → Turn
  AtOffice : List OfficeEntry → OfficeEntry → Turn

-- a line's turns at the door, from a place on
abbrev pub door_turns : By → ℕ → List DoorEntry → List Turn
door_turns by place [] = []
door_turns by place (entry ∷ entries) = (if same_line by entry.by then AtDoor place entry.act ∷ [] else []) ++ door_turns by (suc place) entries

-- a line's turns at a node, after a history
abbrev pub node_turns : By → ℕ → List NodeEntry → List NodeEntry → List Turn
node_turns by node before [] = []
node_turns by node before (entry ∷ entries) =
    (if same_line by entry.by then AtNode node before entry ∷ [] else []) ++ node_turns by node (before ++ entry ∷ []) entries

-- a line's turns at the nodes from this number on
abbrev pub nodes_turns : By → ℕ → List (List NodeEntry) → List Turn
nodes_turns by node [] = []
nodes_turns by node (history ∷ histories) = node_turns by node [] history ++ nodes_turns by (suc node) histories

-- a line's turns at the office, after a history
abbrev pub office_turns : By → List OfficeEntry → List OfficeEntry → List Turn
office_turns by before [] = []
office_turns by before (entry ∷ entries) =
    (if same_line by entry.by then AtOffice before entry ∷ [] else []) ++ office_turns by (before ++ entry ∷ []) entries

-- when a turn was made: one at a node or the office comes before the door's entry at the place of its front, and after those before it
abbrev pub moment : Turn → ℕ
moment (AtDoor place act) = place + place + 1
moment (AtNode node before entry) = entry.front + entry.front
moment (AtOffice before entry) = entry.front + entry.front

-- the id that a turn gives up at its node
abbrev pub given_by : NodeAct → Option TxnId
given_by (GiveUp id) = Some id
given_by act = None

abbrev pub given_in : Turn → Option TxnId
given_in (AtNode node before entry) = given_by entry.act
given_in turn = None

-- whether both ids are given, and the first is below the second
abbrev pub is_lesser : Option TxnId → Option TxnId → Bool
is_lesser (Some a) (Some b) = id_lt a b
is_lesser a b = false

-- whether a turn was made before another: at an earlier moment, or at the same one it gave a lesser id up, since a line goes through ids in their order
abbrev pub precedes : Turn → Turn → Bool
precedes turn other = nat_lt (moment turn) (moment other) || moment turn == moment other && is_lesser (given_in turn) (given_in other)

-- turns in order with one more, behind those that it doesn't precede
abbrev pub with_turn : List Turn → Turn → List Turn
with_turn [] turn = turn ∷ []
with_turn (other ∷ turns) turn = if precedes turn other then turn ∷ other ∷ turns else other ∷ with_turn turns turn

-- the turns of a line, in order. So each front is above the place of each earlier entry of the line at the door, and no place is below an earlier front
abbrev pub turns : By → Trace → List Turn
turns by trace = fold with_turn [] (nodes_turns by 1 trace.nodes ++ door_turns by 0 trace.door ++ office_turns by [] trace.office)

-- what a turn answered
abbrev pub answer_in : Turn → Option Reply
answer_in (AtDoor place act) = None
answer_in (AtNode node before entry) = entry.answer
answer_in (AtOffice before entry) = entry.answer

-- the front of a turn, or 0 at the door
abbrev pub front_in : Turn → ℕ
front_in (AtDoor place act) = 0
front_in (AtNode node before entry) = entry.front
front_in (AtOffice before entry) = entry.front

-- the front of the last of some turns, or 0
abbrev pub end_front : List Turn → ℕ
end_front line = fold (λ before turn. front_in turn) 0 line
