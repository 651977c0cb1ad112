-- What one step of a machine does at the value at which it makes its turn.
use Rattle.std.specs.Prelude.{Bool, IsTrue, List, Option, length, max, nat_le, true, ℕ, [], ◌++◌, ◌∷◌, ◌≡◌, ◌⊎◌}
use Rattle.std.specs.List.{list_all}
use Rattle.aft_model.specs.declared.caller.By.{By}
use Rattle.aft_model.specs.declared.door.DoorAct.{DoorAct}
use Rattle.aft_model.specs.declared.door.DoorEntry.{DoorEntry}
use Rattle.aft_model.specs.declared.node.NodeAct.{NodeAct}
use Rattle.aft_model.specs.declared.node.NodeEntry.{NodeEntry}
use Rattle.aft_model.specs.declared.reply.Reply.{Reply}
use Rattle.aft_door.specs.Calls.{DoorView}
use Rattle.aft_ledger.specs.View.{NodeView, after_entry}
use Rattle.aft_lines.specs.Turns.{AtDoor, AtNode, Turn}
use Rattle.aft_turns.specs.Trail.{Trail, behind, looking}

-- the entry that a turn of a line at a node adds, where this front was handed in
abbrev pub entry_of : By → ℕ → NodeView → NodeAct → Option Reply → NodeEntry
entry_of by handed node act answer = record { front = max node.front handed; by = by; act = act; answer = answer }

-- a step at a node: one entry of the line, and the machine stands behind that turn
abbrev pub StepsAtNode : By → ℕ → (Trail → Type 0) → (Trail → Type 0) → NodeView → NodeView → Type 0
StepsAtNode by handed stood stands old new =
    (act : NodeAct) × (answer : Option Reply) × (new ≡ after_entry handed by act answer old)
    × ((trail : Trail) → stood trail → stands (behind trail (AtNode old.number old.history (entry_of by handed old act answer))))

-- what the store told at first stays
pub record SameStore (old new : DoorView) : Type 0 where
  pub contents : new.first_contents ≡ old.first_contents
  pub log : new.first_log ≡ old.first_log

-- a step at the door that made an entry of the line: the machine stands behind that turn
abbrev pub ActsAtDoor : By → (Trail → Type 0) → (Trail → Type 0) → List DoorEntry → List DoorEntry → Type 0
ActsAtDoor by stood stands old new =
    (act : DoorAct) × (new ≡ old ++ record { by = by; act = act } ∷ [])
    × ((trail : Trail) → stood trail → stands (behind trail (AtDoor (length old) act)))

-- one that made none: it has looked at the door as it was
abbrev pub LooksAtDoor : (Trail → Type 0) → (Trail → Type 0) → List DoorEntry → List DoorEntry → Type 0
LooksAtDoor stood stands old new = (new ≡ old) × ((trail : Trail) → stood trail → stands (looking trail old))

-- a step at the door
abbrev pub StepsAtDoor : By → (Trail → Type 0) → (Trail → Type 0) → List DoorEntry → List DoorEntry → Type 0
StepsAtDoor by stood stands old new = ActsAtDoor by stood stands old new ⊎ LooksAtDoor stood stands old new

-- whether a turn at a node has seen no more of the door than there is
abbrev pub is_front_within : List DoorEntry → Turn → Bool
is_front_within seen (AtNode node before entry) = nat_le entry.front (length seen)
is_front_within seen turn = true

-- the same of each of some turns. It stays so, since the door's history only grows
abbrev pub FrontsWithin : List DoorEntry → List Turn → Type 0
FrontsWithin seen turns = IsTrue (list_all (is_front_within seen) turns)
