-- A start that is a line's machine, what it asks of its next turn, and where starts stand in a run.
use Rattle.std.specs.Prelude.{Bool, IsTrue, List, None, Option, Some, [], not, true, ◌||◌, ◌≡◌, ℕ}
use Rattle.aft_model.specs.declared.door.DoorEntry.{DoorEntry}
use Rattle.aft_model.specs.declared.node.NodeAct.{NodeAct}
use Rattle.aft_model.specs.declared.node.NodeAct.TheVariants as acts
use Rattle.aft_model.specs.declared.node.NodeEntry.{NodeEntry}
use Rattle.aft_model.specs.declared.script.Command.TheVariants as commands
use Rattle.aft_model.specs.declared.script.Line.{Line}
use Rattle.aft_model.specs.DoorKnowledge.{is_open}
use Rattle.aft_model.specs.History.{each_after}
use Rattle.aft_model.specs.Membership.{Incarnation, incarnation, same_incarnation}
use Rattle.aft_model.specs.NodeSights.{is_fenced}
use Rattle.aft_door.specs.Refusals.{is_past}
use Rattle.aft_ledger.specs.View.{NodeView}
use Rattle.aft_lines.specs.Asked.{Asked, Ran}
use Rattle.aft_lines.specs.FinishedText.{line_of}
use Rattle.aft_lines.specs.RunsSoFar.{position_of}
use Rattle.aft_lines.specs.Views.{each_view}
use Rattle.aft_node.specs.Closing.{act_passes, last_own, opens_boot}
use Rattle.aft_boot.specs.Booted.{MayCall, MayEnd, may_close}
use Rattle.aft_boot.specs.BootView.{BootView, next_of}
use Rattle.aft_turns.specs.declared.turn.Where.TheVariants as places
use Rattle.law_held.specs.Starting.{is_start, to_come_up}

-- a start is the machine of a line, which asks for its node
pub record IsStartOf (line : Line) (boot : BootView) : Type 0 where
  pub by : boot.by ≡ line_of line
  pub asks : line.order ≡ commands.Start boot.node

-- what a start asks of its next turn, where that is at this node: its line's last entry there opened what it closes
abbrev pub MayCloseAtNode : BootView → NodeView → Type 0
MayCloseAtNode boot node = next_of boot ≡ places.Node node.number → may_close boot node.history

-- the node still boots what it ends, or has left that
abbrev pub MayEndAtNode : BootView → NodeView → Type 0
MayEndAtNode boot node = next_of boot ≡ places.Node node.number → MayEnd boot node.history

-- and where it is at the door: its incarnation may come up, or has come up, and the door is open
abbrev pub MayCallAtDoor : BootView → List DoorEntry → Type 0
MayCallAtDoor boot door = next_of boot ≡ places.Door → MayCall boot door × IsTrue (is_open door)

-- whether an act that ends a boot is of a line that, by its last entry there, began that
abbrev pub ends_own_at : Option NodeAct → NodeAct → Bool
ends_own_at last (acts.Boot inc commits) = act_passes (opens_boot inc) last
ends_own_at last (acts.BootStopped inc) = act_passes (opens_boot inc) last
ends_own_at last act = true

abbrev pub ends_own_boot : List NodeEntry → NodeEntry → Bool
ends_own_boot history entry = ends_own_at (last_own entry.by history) entry.act

-- each boot of a node's history is ended by the line that began it
abbrev pub EndsOwnBoots : List NodeEntry → Type 0
EndsOwnBoots history = IsTrue (each_after ends_own_boot [] history)

-- whether an act at a node, if it ends a boot, ends that of this incarnation
abbrev pub ends_boot_of : Incarnation → ℕ → NodeAct → Bool
ends_boot_of who node (acts.Boot inc commits) = same_incarnation who (incarnation node inc)
ends_boot_of who node (acts.BootStopped inc) = same_incarnation who (incarnation node inc)
ends_boot_of who node act = true

-- whether an incarnation that is to come up was fenced, or neither it nor a newer one of its node was
abbrev pub stands_newest : List DoorEntry → Option Incarnation → Bool
stands_newest door None = true
stands_newest door (Some who) = is_fenced who door || not (is_past who.node who.inc door)

-- whether each start stands so
abbrev pub StartsAreNewest : Asked → Ran → Type 0
StartsAreNewest asked ran = IsTrue (each_view (λ view. not (is_start view.command) || stands_newest ran.trace.door (to_come_up (position_of view))) asked ran)
