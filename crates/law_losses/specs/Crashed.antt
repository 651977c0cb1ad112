-- That a line of a run crashed a node, as some of the door's history shows.
use Rattle.std.specs.Prelude.{IsTrue, ◌≡◌, ℕ, List}
use Rattle.aft_model.specs.declared.door.DoorAct.TheVariants.{Fence}
use Rattle.aft_model.specs.declared.door.DoorEntry.{DoorEntry}
use Rattle.aft_model.specs.declared.script.Line.{Line}
use Rattle.aft_model.proofs.Histories.{In}
use Rattle.aft_lines.specs.Asked.{Asked}
use Rattle.aft_lines.specs.CausesNodes.{crashes}
use Rattle.aft_lines.specs.FinishedText.{line_of}
use Rattle.aft_lines.specs.Lines.{lines}

-- a line that asks for the crash of a node, and its fence of an incarnation of the node among these entries
pub record CrashedIn (asked : Asked) (node : ℕ) (seen : List DoorEntry) : Type 0 where
  pub crash : Line
  pub listed : In crash (lines asked)
  pub asks : IsTrue (crashes node crash.order)
  pub inc : ℕ
  pub fence : DoorEntry
  pub among : In fence seen
  pub does : fence.act ≡ Fence node inc
  pub by : line_of crash ≡ fence.by
