-- A begin or a forget that is a line's machine, and what it asks of its next turn.
use Rattle.std.specs.Prelude.{IsTrue, List, ◌≡◌}
use Rattle.aft_model.specs.declared.door.DoorEntry.{DoorEntry}
use Rattle.aft_model.specs.declared.script.Line.{Line}
use Rattle.aft_model.specs.DoorKnowledge.{is_open}
use Rattle.aft_begin.specs.declared.aim.Aim.{Aim}
use Rattle.aft_begin.specs.Made.{Knows, MayCall, MayEnd, may_close}
use Rattle.aft_begin.specs.View.{ClaimView, asks, next_of}
use Rattle.aft_ledger.specs.View.{NodeView}
use Rattle.aft_lines.specs.FinishedText.{line_of}
use Rattle.aft_turns.specs.declared.turn.Where.TheVariants as places

-- a machine that claims a UUID for this is a line's: it is of that line, which asks for its UUID at its node
pub record IsClaimOf (aim : Aim) (line : Line) (claim : ClaimView) : Type 0 where
  pub by : claim.by ≡ line_of line
  pub claims : claim.aim ≡ aim
  pub order : line.order ≡ asks aim claim.uuid claim.node

-- what it asks of its next turn, where that is at this node: its line's last entry there admitted the attempt that it ends, and that still opens, or the node has left the incarnation
abbrev pub MayGoAtNode : ClaimView → NodeView → Type 0
MayGoAtNode claim node = next_of claim ≡ places.Node node.number → may_close claim node.history × MayEnd claim node.history

-- and where it is at the door: unless its incarnation was fenced, that is up, and holds the UUID just where it should; where it deletes, its incarnation has found the short marker; and the door is open
abbrev pub MayGoAtDoor : ClaimView → List DoorEntry → Type 0
MayGoAtDoor claim door = next_of claim ≡ places.Door → MayCall claim door × Knows claim door × IsTrue (is_open door)
