-- A first boot that the opening drives: what its turns so far have made of its node and of the door.
use Rattle.std.specs.Prelude.{Err, List, None, Ok, Option, Result, Some, [], if◌then◌else◌, length, suc, ℕ, ◌++◌, ◌-◌, ◌≡◌, ◌≤◌, ◌∷◌}
use Rattle.std.specs.List.{flat_map, fold}
use Rattle.aft_audit.specs.declared.fault.AuditFault.{AuditFault}
use Rattle.aft_audit.specs.declared.fault.AuditFault.TheVariants as faults
use Rattle.aft_ledger.specs.View.{NodeView}
use Rattle.aft_lines.specs.LineView.{door_entry_in}
use Rattle.aft_lines.specs.Turns.{AtDoor, AtNode, AtOffice, Turn}
use Rattle.aft_model.specs.declared.door.DoorEntry.{DoorEntry}
use Rattle.aft_model.specs.declared.node.NodeEntry.{NodeEntry}
use Rattle.aft_model.specs.declared.reply.Reply.{Reply}
use Rattle.aft_model.specs.declared.reply.Reply.TheVariants as replies
use Rattle.aft_model.specs.LegalNode.{front}
use Rattle.aft_model.specs.Opening.{opening}
use Rattle.aft_model.specs.Replies.{is_silent}
use Rattle.aft_boot.specs.Booted.{BeginsWith, Made}
use Rattle.aft_boot.specs.BootView.{BootView}
use Rattle.aft_boot.specs.FirstBoots.{IsReadyFor, TellsFault}
use Rattle.aft_turns.specs.Trail.{Trail}

-- what a turn did at a node
abbrev pub node_entry_in : Turn → List NodeEntry
node_entry_in (AtNode node before entry) = entry ∷ []
node_entry_in turn = []

-- turns stand one behind the other: those at the door from a place on, and those at a node behind a history, each of which has seen all that was at the door then
abbrev pub Placed : ℕ → ℕ → List NodeEntry → List Turn → Type 0
Placed number place before [] = Unit {0}
Placed number place before (AtDoor at act ∷ turns) = (at ≡ place) × Placed number (suc place) before turns
Placed number place before (AtNode node history entry ∷ turns) = (node ≡ number) × (history ≡ before) × (entry.front ≡ place) × Placed number place (before ++ entry ∷ []) turns
Placed number place before (AtOffice history entry ∷ turns) = ⊥

-- for how many answers there is room behind a history, where there was for one more than these
abbrev pub room_behind : ℕ → List NodeEntry → ℕ
room_behind lines history = fold (λ room entry. if is_silent entry.answer then room else room - 1) (suc lines) history

-- a first boot so far, of a node that was fresh, over a door that was ready for it
pub record Drives (start : List DoorEntry) (capacity lines : ℕ) (boot : BootView) (node : NodeView) (door : List DoorEntry) : Type 0 where
  pub ready : IsReadyFor node.number start
  pub trail : Trail
  pub made : Made boot trail
  pub by : boot.by ≡ opening
  pub number : boot.node ≡ node.number
  pub some : 1 ≤ node.number
  pub capacity_is : node.capacity ≡ capacity
  pub front_is : node.front ≡ front node.history
  pub seen : node.front ≤ length door
  pub room : node.room ≡ room_behind lines node.history
  pub door_is : door ≡ start ++ flat_map (door_entry_in opening) trail.turns
  pub history_is : node.history ≡ flat_map node_entry_in trail.turns
  pub placed : Placed node.number (length start) [] trail.turns
  pub looked : BeginsWith trail.look door

-- what a boot's reply is to the opening: that the node serves, or why there is no world
abbrev pub ReplyTells : Reply → Result Unit AuditFault → Type 0
ReplyTells (replies.Started node inc) told = told ≡ Ok tt
ReplyTells reply (Err fault) = TellsFault reply fault
ReplyTells reply (Ok done) = ⊥

-- the same of an answer; what was not answered is want of memory
abbrev pub AnswerTells : Option Reply → Result Unit AuditFault → Type 0
AnswerTells (Some reply) told = ReplyTells reply told
AnswerTells None told = told ≡ Err faults.Memory

-- the same of a node's last entry, if there is one
abbrev pub LastTells : Option NodeEntry → Result Unit AuditFault → Type 0
LastTells (Some entry) told = AnswerTells entry.answer told
LastTells None told = told ≡ Err faults.Memory
