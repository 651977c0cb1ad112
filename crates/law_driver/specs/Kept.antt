-- What a turn of a machine leaves.
use Rattle.std.specs.Prelude.{Bool, Option, false, if◌then◌else◌, length, true, ◌≡◌}
use Rattle.aft_model.specs.declared.caller.Hold.{Hold}
use Rattle.aft_model.specs.declared.door.DoorAct.{DoorAct}
use Rattle.aft_model.specs.declared.door.DoorEntry.{DoorEntry}
use Rattle.aft_model.specs.declared.node.NodeAct.{NodeAct}
use Rattle.aft_model.specs.declared.reply.Reply.{Reply}
use Rattle.aft_model.specs.declared.script.Line.{Line}
use Rattle.aft_model.specs.ScanRun.{same_line}
use Rattle.aft_lines.specs.Asked.{Asked, Ran}
use Rattle.aft_lines.specs.FinishedText.{line_of}
use Rattle.aft_ledger.specs.View.{NodeView}
use Rattle.aft_lines.specs.Turns.{AtNode, turns}
use Rattle.aft_turns.specs.Steps.{entry_of}
use Rattle.aft_turns.specs.Trail.{Trail, behind}
use Rattle.law_accounts.specs.Account.{Account, IsDone, Stand}
use Rattle.law_accounts.specs.Adding.{AddsAtNode, with_added}
use Rattle.law_driver.specs.Driven.{Driven}

-- how lines stand, where one stands so
abbrev pub with_stand : Line → Stand → (Line → Stand) → Line → Stand
with_stand line now stand other = if same_line (line_of other) (line_of line) then now else stand other

-- the line runs on, or it is over, and its turns are those of the trail
abbrev pub StandsNow : Bool → Asked → Ran → (Line → Stand) → Line → Hold → Trail → Type 0
StandsNow false asked ran stand line hold trail = Driven asked ran stand line hold trail
StandsNow true asked ran stand line hold trail = Account asked ran (with_stand line IsDone stand) × (turns (line_of line) ran.trace ≡ trail.turns)

-- ---- one turn

-- a run with the entry of a line's turn at a node, which has seen all that is at the door; and the line's trail behind it
abbrev pub with_node : Ran → Line → NodeView → NodeAct → Option Reply → Ran
with_node ran line node act answer = with_added (AddsAtNode node.number (entry_of (line_of line) (length ran.trace.door) node act answer)) ran

abbrev pub behind_node : Ran → Line → NodeView → NodeAct → Option Reply → Trail → Trail
behind_node ran line node act answer trail = behind trail (AtNode node.number node.history (entry_of (line_of line) (length ran.trace.door) node act answer))

-- the entry of a line's turn at the door
abbrev pub door_entry : Line → DoorAct → DoorEntry
door_entry line act = record { by = line_of line; act = act }
