-- Words on the course of a line: how it ends or is cut short, and what its calls at the door are.
use Rattle.std.specs.Prelude.{List, Bool, Option, Some, [], false, true, ℕ, ◌&&◌, ◌==◌, ◌||◌, ◌∷◌}
use Rattle.aft_keeper.specs.declared.keeper.KeeperAnswer.{KeeperAnswer}
use Rattle.aft_keeper.specs.declared.keeper.KeeperAnswer.TheVariants.{Absent, Found}
use Rattle.aft_keeper.specs.declared.keeper.Pair.{Pair}
use Rattle.aft_records.specs.declared.stored.Commit.{Commit}
use Rattle.aft_model.specs.declared.caller.Attempt.{Attempt}
use Rattle.aft_model.specs.declared.door.DoorEntry.{DoorEntry}
use Rattle.aft_model.specs.declared.node.NodeAct.{NodeAct}
use Rattle.aft_model.specs.declared.node.NodeAct.TheVariants.{Nothing}
use Rattle.aft_model.specs.declared.node.NodeEntry.{NodeEntry}
use Rattle.aft_model.specs.declared.office.OfficeAct.{OfficeAct}
use Rattle.aft_model.specs.declared.reply.Reply.{Reply}
use Rattle.aft_model.specs.declared.reply.Reply.TheVariants.{Busy, Forgotten, NoMemory, NodeDown}
use Rattle.aft_model.specs.Membership.{Incarnation, incarnation}
use Rattle.aft_model.specs.NodeState.{NodeState, node_state}
use Rattle.aft_model.specs.Readings.{is_record_of, record_name}
use Rattle.aft_lines.specs.Turns.{AtNode, AtOffice, Turn}
use Rattle.aft_model.specs.declared.office.OfficeAct.TheVariants as office_acts

-- what the ends of a line rest on: the door's history that it has seen; whether an incarnation was shut out of the door by a front; whether a node in a state has left an incarnation, which it doesn't serve or boot any more; and whether a node which was asked for a commit between two rests of the line need not have given it up
pub record Ends : Type 0 where
  pub seen : List DoorEntry
  pub is_shut_out : Incarnation → ℕ → Bool
  pub is_left : ℕ → NodeState → Bool
  pub is_kept : ℕ → Commit → List Turn → List Turn → Bool

-- whether no turn is left
abbrev pub is_over : List Turn → Bool
is_over [] = true
is_over line = false

-- whether one turn is left, at this node, and it passes a test of the node's state before and of its entry
abbrev pub ends_at_node : ℕ → (NodeState → NodeEntry → Bool) → List Turn → Bool
ends_at_node node test (AtNode at before entry ∷ []) = node == at && test (node_state before) entry
ends_at_node node test line = false

-- the same at the office, of what it did and answered
abbrev pub ends_at_office : (OfficeAct → Option Reply → Bool) → List Turn → Bool
ends_at_office test (AtOffice before entry ∷ []) = test entry.act entry.answer
ends_at_office test line = false

-- whether a reply tells that the node is down
abbrev pub tells_down : Option Reply → Bool
tells_down (Some (NodeDown node inc)) = true
tells_down answer = false

-- whether a reply tells that memory was wanting
abbrev pub tells_no_memory : Option Reply → Bool
tells_no_memory (Some NoMemory) = true
tells_no_memory answer = false

-- whether a reply tells why a call made no entry: the caller was fenced, or memory was wanting
abbrev pub tells_refused : Option Reply → Bool
tells_refused answer = tells_down answer || tells_no_memory answer

-- whether a reply tells why a claim made no entry: another incarnation holds the UUID, it is forgotten, or it was refused so
abbrev pub tells_unclaimed : Option Reply → Bool
tells_unclaimed (Some (Busy node inc)) = true
tells_unclaimed (Some (Forgotten uuid)) = true
tells_unclaimed answer = tells_refused answer

-- any answer
abbrev pub any_answer : Option Reply → Bool
any_answer answer = true

-- whether an entry answers alone that the node is down
abbrev pub answers_down : NodeAct → Option Reply → Bool
answers_down Nothing answer = tells_down answer
answers_down act answer = false

-- whether an entry closes a line of an incarnation: what it did and answered passes a test, or it answers alone that the node is down, where the node has left the incarnation
abbrev pub closes : Ends → ℕ → (NodeAct → Option Reply → Bool) → NodeState → NodeEntry → Bool
closes ends inc test state entry = test entry.act entry.answer || answers_down entry.act entry.answer && ends.is_left inc state

-- whether the last turn, at a node, has seen that this incarnation was shut out
abbrev pub ends_shut_out : Ends → Incarnation → List Turn → Bool
ends_shut_out ends who (AtNode at before entry ∷ []) = ends.is_shut_out who entry.front
ends_shut_out ends who line = false

-- an answer alone, at a node and at the office
abbrev pub only_answers : NodeAct → Option Reply → Bool
only_answers Nothing answer = true
only_answers act answer = false

abbrev pub office_answers : OfficeAct → Option Reply → Bool
office_answers office_acts.Nothing answer = true
office_answers act answer = false

-- an answer alone at the office that memory was wanting
abbrev pub office_lacks_memory : OfficeAct → Option Reply → Bool
office_lacks_memory act answer = office_answers act answer && tells_no_memory answer

-- the incarnation of an attempt
abbrev pub caller_of : Attempt → Incarnation
caller_of a = incarnation a.node a.inc

-- whether a get found the record of a commit
abbrev pub finds_record : Commit → KeeperAnswer → Bool
finds_record c (Found bytes) = is_record_of c (record { name = record_name c.id.uuid; bytes = bytes })
finds_record c answer = false

-- whether a get found nothing
abbrev pub finds_nothing : KeeperAnswer → Bool
finds_nothing Absent = true
finds_nothing answer = false

-- what a get of a name found, as a pair
abbrev pub found_pair : List ℕ → KeeperAnswer → List Pair
found_pair name (Found bytes) = record { name = name; bytes = bytes } ∷ []
found_pair name answer = []
