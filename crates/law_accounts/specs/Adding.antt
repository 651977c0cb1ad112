-- One entry more in one of a run's histories: what it is, and what is known of it where it is made.
use Rattle.std.specs.Prelude.{Bool, IsTrue, List, None, Option, Some, [], if◌then◌else◌, length, nat_le, suc, ℕ, ◌++◌, ◌==◌, ◌≤◌, ◌∷◌, true}
use Rattle.std.specs.List.{list_all}
use Rattle.aft_model.specs.declared.caller.By.{By}
use Rattle.aft_model.specs.declared.door.DoorEntry.{DoorEntry}
use Rattle.aft_model.specs.declared.mail.MailEntry.{MailEntry}
use Rattle.aft_model.specs.declared.node.NodeEntry.{NodeEntry}
use Rattle.aft_model.specs.declared.office.OfficeEntry.{OfficeEntry}
use Rattle.aft_model.specs.declared.script.Line.{Line}
use Rattle.aft_model.specs.Boxes.{is_legal_box}
use Rattle.aft_model.specs.Bytes.{HasBytes}
use Rattle.aft_model.specs.LegalDoor.{Legal}
use Rattle.aft_model.specs.LegalNode.{is_legal_node}
use Rattle.aft_model.specs.NodeSights.{may_come_at}
use Rattle.aft_model.specs.Office.{is_legal_office}
use Rattle.aft_model.specs.Opening.{opening}
use Rattle.aft_lines.specs.Asked.{Asked, Ran}
use Rattle.aft_lines.specs.LegalTrace.{act_at, has_seen_earlier, is_backed_at, makers, rank}
use Rattle.aft_lines.specs.Lines.{whole_order}
use Rattle.aft_lines.specs.Turns.{end_front, turns}

-- what is added: an entry at the door, at the node of a number, at the office, or at the box of a number
pub data Added : Type 0 where
  AddsAtDoor : DoorEntry → Added
  AddsAtNode : ℕ → NodeEntry → Added
  AddsAtOffice : OfficeEntry → Added
  AddsAtBox : ℕ → MailEntry → Added

-- the line that adds it
abbrev pub maker_of : Added → By
maker_of (AddsAtDoor entry) = entry.by
maker_of (AddsAtNode node entry) = entry.by
maker_of (AddsAtOffice entry) = entry.by
maker_of (AddsAtBox box entry) = entry.by

-- histories that are numbered from here on, with an entry more in that of a number
abbrev pub with_entry_in : {A : Type 0} → ℕ → A → ℕ → List (List A) → List (List A)
with_entry_in number entry first [] = []
with_entry_in number entry first (history ∷ histories) = if first == number then (history ++ entry ∷ []) ∷ histories else history ∷ with_entry_in number entry (suc first) histories

-- the history of a number among them, or none
abbrev pub numbered_in : {A : Type 0} → ℕ → ℕ → List (List A) → List A
numbered_in number first [] = []
numbered_in number first (history ∷ histories) = if first == number then history else numbered_in number (suc first) histories

-- a run with what is added
abbrev pub with_added : Added → Ran → Ran
with_added (AddsAtDoor entry) ran = record ran { trace = record ran.trace { door = ran.trace.door ++ entry ∷ [] } }
with_added (AddsAtNode node entry) ran = record ran { trace = record ran.trace { nodes = with_entry_in node entry 1 ran.trace.nodes } }
with_added (AddsAtOffice entry) ran = record ran { trace = record ran.trace { office = ran.trace.office ++ entry ∷ [] } }
with_added (AddsAtBox box entry) ran = record ran { mail = with_entry_in box entry 0 ran.mail }

-- ---- what is known of an entry

-- what the history tells to which it is added: that stays legal; at a node the entry has seen at the door what it asks, and reads the run's clock; and a turn has seen the opening whole
abbrev pub Follows : Asked → Ran → Added → Type 0
Follows asked ran (AddsAtDoor entry) =
    Legal (ran.trace.door ++ entry ∷ []) × HasBytes (ran.trace.door ++ entry ∷ []) × IsTrue (is_backed_at ran.trace.nodes entry.by (length ran.trace.door) entry.act)
Follows asked ran (AddsAtNode node entry) =
    IsTrue (is_legal_node node asked.settings.cache (numbered_in node 1 ran.trace.nodes ++ entry ∷ []))
    × IsTrue (may_come_at node ran.trace.door (numbered_in node 1 ran.trace.nodes) entry) × IsTrue (act_at asked.clock entry.act) × (end_front (turns opening ran.trace) ≤ entry.front)
Follows asked ran (AddsAtOffice entry) = IsTrue (is_legal_office ran.trace.door (ran.trace.office ++ entry ∷ [])) × (end_front (turns opening ran.trace) ≤ entry.front)
Follows asked ran (AddsAtBox box entry) = IsTrue (is_legal_box asked.settings.mailbox (numbered_in box 0 ran.mail ++ entry ∷ []))

-- ---- lines that run whole

-- whether a line comes behind all that have made an entry, among lines that run whole
abbrev pub ranks_last : List Line → By → Ran → Bool
ranks_last order by ran = list_all (list_all (λ other. nat_le (rank order other) (rank order by))) (makers ran)

-- whether what is added has seen all that lines which come before its own did at the door
abbrev pub has_seen_before : List Line → Ran → Added → Bool
has_seen_before order ran (AddsAtDoor entry) = true
has_seen_before order ran (AddsAtNode node entry) = has_seen_earlier order ran.trace.door entry.front entry.by
has_seen_before order ran (AddsAtOffice entry) = has_seen_earlier order ran.trace.door entry.front entry.by
has_seen_before order ran (AddsAtBox box entry) = true

-- what is added comes in an order
abbrev pub ComesInOrder : List Line → Ran → Added → Type 0
ComesInOrder order ran added = IsTrue (ranks_last order (maker_of added) ran) × IsTrue (has_seen_before order ran added)

-- where lines run whole, in theirs; and in that of what a session asks
abbrev pub comes_in : Ran → Added → Option (List Line) → Type 0
comes_in ran added None = Unit {0}
comes_in ran added (Some order) = ComesInOrder order ran added

abbrev pub ComesAsOrdered : Asked → Ran → Added → Type 0
ComesAsOrdered asked ran added = comes_in ran added (whole_order asked) × ComesInOrder asked.asks ran added
