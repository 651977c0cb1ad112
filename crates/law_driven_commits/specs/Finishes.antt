-- A commit or an abort that is a line's machine, and what it asks of its next turn.
use Rattle.std.specs.Prelude.{Bool, IsTrue, List, length, nat_le, true, ◌≡◌}
use Rattle.std.specs.List.{list_all}
use Rattle.aft_model.specs.declared.caller.Hold.{Hold}
use Rattle.aft_model.specs.declared.door.DoorEntry.{DoorEntry}
use Rattle.aft_model.specs.declared.script.Command.{Command}
use Rattle.aft_model.specs.declared.script.Command.TheVariants as commands
use Rattle.aft_model.specs.declared.script.Line.{Line}
use Rattle.aft_model.specs.DoorKnowledge.{is_open}
use Rattle.aft_ledger.specs.View.{NodeView}
use Rattle.aft_lines.specs.Asked.{Asked}
use Rattle.aft_lines.specs.FinishedText.{line_of}
use Rattle.aft_lines.specs.Lines.{lines}
use Rattle.aft_commit.specs.Asks.{MayCall, MayEnd, may_close, may_put}
use Rattle.aft_commit.specs.Made.{command_of}
use Rattle.aft_commit.specs.View.{FinishView, next_of}
use Rattle.aft_turns.specs.declared.turn.Where.TheVariants as places

-- a commit or an abort is the machine of a line whose client holds this: it is of that line, which asks for it
pub record IsFinishOf (line : Line) (hold : Hold) (finish : FinishView) : Type 0 where
  pub by : finish.by ≡ line_of line
  pub held : finish.hold ≡ hold
  pub asks : line.order ≡ command_of finish.aborts

-- what a commit or an abort asks of its next turn, where that is at this node: its line's last entry there opened what it closes, and a commit that it tells is committed was stored by the line
abbrev pub MayCloseAtNode : FinishView → NodeView → Type 0
MayCloseAtNode finish node = next_of finish ≡ places.Node node.number → may_close finish node.history

-- and the attempt still does there what is to end, and so with the commit that its line is to store, or the node has left its incarnation
abbrev pub MayEndAtNode : FinishView → NodeView → Type 0
MayEndAtNode finish node = next_of finish ≡ places.Node node.number → MayEnd finish node.history

-- what it knows of the run where its next turn is at the door: its attempt's incarnation, unless it was fenced, is up and holds the UUID, and the door is open
abbrev pub MayCallAtDoor : FinishView → List DoorEntry → Type 0
MayCallAtDoor finish door = next_of finish ≡ places.Door → MayCall finish door × IsTrue (is_open door)

-- and of a put: that the UUID was unused, and behind the versions, that each of them was put
abbrev pub MayPutAtDoor : FinishView → List DoorEntry → Type 0
MayPutAtDoor finish door = next_of finish ≡ places.Door → may_put finish door

-- whether a command puts no value of more than 4,096 bytes; and no line of a script does
abbrev pub puts_short : Command → Bool
puts_short (commands.Put key value) = nat_le (length value) 4096
puts_short command = true

abbrev pub PutsAreShort : Asked → Type 0
PutsAreShort asked = IsTrue (list_all (λ line. puts_short line.order) (lines asked))
