-- A get that is a line's machine, and what it asks of its next turn.
use Rattle.std.specs.Prelude.{IsTrue, List, ◌≡◌}
use Rattle.aft_model.specs.declared.caller.Hold.{Hold}
use Rattle.aft_model.specs.declared.door.DoorEntry.{DoorEntry}
use Rattle.aft_model.specs.declared.script.Command.TheVariants as commands
use Rattle.aft_model.specs.declared.script.Line.{Line}
use Rattle.aft_model.specs.DoorKnowledge.{is_open}
use Rattle.aft_ledger.specs.View.{NodeView}
use Rattle.aft_lines.specs.FinishedText.{line_of}
use Rattle.aft_read.specs.Made.{HasComeUp, MayEnd, may_close}
use Rattle.aft_read.specs.View.{ReadView, next_of}
use Rattle.aft_turns.specs.declared.turn.Where.TheVariants as places

-- a get is the machine of a line whose client holds this: it is of that line, which asks for its key
pub record IsGetOf (line : Line) (hold : Hold) (read : ReadView) : Type 0 where
  pub by : read.by ≡ line_of line
  pub held : read.hold ≡ hold
  pub asks : line.order ≡ commands.Get read.key

-- what a get asks of its next turn, where that is at this node: its line's last entry there opened what it closes, and the fetch is still open, or the node has left the incarnation
abbrev pub MayGoAtNode : ReadView → NodeView → Type 0
MayGoAtNode read node = next_of read ≡ places.Node node.number → may_close read node.history × MayEnd read node.history

-- and where it is at the door: the incarnation for which it fetches has come up, and the door is open
abbrev pub MayGoAtDoor : ReadView → List DoorEntry → Type 0
MayGoAtDoor read door = next_of read ≡ places.Door → HasComeUp read door × IsTrue (is_open door)
