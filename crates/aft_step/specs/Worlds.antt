-- What a world shows, and the run that it has come to.
use Rattle.std.specs.Prelude.{Bool, IsTrue, List, length, map, nat_le, ℕ, ◌&&◌, ◌==◌, ◌≡◌, filter, true, false}
use Rattle.std.specs.List.{list_all}
use Rattle.aft_door.specs.Calls.{DoorView}
use Rattle.aft_ledger.specs.View.{NodeView}
use Rattle.aft_lines.specs.Asked.{Asked, Ran, Settings}
use Rattle.aft_lines.specs.Lines.{node_numbers}
use Rattle.aft_mail.specs.BoxState.{BoxState}
use Rattle.aft_mail.specs.Desk.{Desk}
use Rattle.aft_model.specs.declared.door.DoorEntry.{DoorEntry}
use Rattle.aft_model.specs.declared.mail.MailEntry.{MailEntry}
use Rattle.aft_model.specs.declared.office.OfficeEntry.{OfficeEntry}
use Rattle.aft_model.specs.declared.script.Line.{Line}
use Rattle.law_accounts.specs.Account.{IsDone, Stand}

-- the histories of the door, of the office and of the boxes, and the nodes
pub record WorldView : Type 0 where
  pub door : List DoorEntry
  pub nodes : List NodeView
  pub office : List OfficeEntry
  pub mail : List (List MailEntry)

abbrev pub shown : DoorView → List NodeView → List BoxState → Desk → WorldView
shown door nodes boxes office = record { door = door.history; nodes = nodes; office = office.history; mail = map (λ box. box.history) boxes }

-- the run that a world has come to
abbrev pub ran_of : WorldView → Ran
ran_of world = record { trace = record { door = world.door; nodes = map (λ node. node.history) world.nodes; office = world.office }; mail = world.mail }

-- whether a line isn't over
abbrev pub is_left : Stand → Bool
is_left IsDone = false
is_left stand = true

-- how many lines of a script aren't over
abbrev pub left_of : (Line → Stand) → List Line → ℕ
left_of stand lines = length (filter (λ line. is_left (stand line)) lines)

-- whether a node keeps as many values as the settings say, has seen no more of the door than there is, and has room for an answer of each line that is left
abbrev pub is_fit : Settings → ℕ → ℕ → NodeView → Bool
is_fit settings door left node = node.capacity == settings.cache && nat_le node.front door && nat_le left node.room

-- the nodes of a world are those of the settings
pub record NodesFit (asked : Asked) (stand : Line → Stand) (world : WorldView) : Type 0 where
  pub numbers : map (λ node. node.number) world.nodes ≡ node_numbers asked.settings
  pub each : IsTrue (list_all (is_fit asked.settings (length world.door) (left_of stand asked.script.lines)) world.nodes)
