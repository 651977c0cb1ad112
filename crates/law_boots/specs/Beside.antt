-- A node's history beside the door's.
use Rattle.std.specs.Prelude.{Bool, IsTrue, List, [], length, not, true, ℕ, ◌==◌, ◌||◌}
use Rattle.aft_model.specs.declared.caller.By.{By}
use Rattle.aft_model.specs.declared.door.DoorAct.{DoorAct}
use Rattle.aft_model.specs.declared.door.DoorAct.TheVariants.{GiveUp}
use Rattle.aft_model.specs.declared.door.DoorEntry.{DoorEntry}
use Rattle.aft_model.specs.declared.node.NodeEntry.{NodeEntry}
use Rattle.aft_model.specs.History.{each_after}
use Rattle.aft_model.specs.LegalNode.{LegalNode}
use Rattle.aft_model.specs.NodeSights.{is_seen_node}
use Rattle.aft_lines.specs.LegalTrace.{backs_give_up, some_after}

-- a legal history of a node, each entry of which has seen at the door what it asks
pub record Beside (node capacity : ℕ) (door : List DoorEntry) (history : List NodeEntry) : Type 0 where
  pub legal : LegalNode node capacity history
  pub seen : IsTrue (is_seen_node node door history)

-- whether a give-up of this node at the door, at this place, has one of its own in the node's history
abbrev pub is_backed_in : ℕ → List NodeEntry → By → ℕ → DoorAct → Bool
is_backed_in node history by place (GiveUp at inc id) = not (at == node) || some_after (backs_give_up by inc id place) [] history
is_backed_in node history by place act = true

-- whether each give-up of this node at the door has
abbrev pub backs_give_ups : ℕ → List NodeEntry → List DoorEntry → Bool
backs_give_ups node history door = each_after (λ before entry. is_backed_in node history entry.by (length before) entry.act) [] door
