-- What a line has seen of the door's history, and a history that grows behind that.
use Rattle.std.specs.Prelude.{Bool, IsTrue, List, nat_le, nat_lt, not, take, ℕ, ◌&&◌, ◌++◌, ◌==◌, ◌≡◌, ◌≤◌}
use Rattle.aft_model.specs.declared.door.DoorEntry.{DoorEntry}
use Rattle.aft_model.specs.declared.script.Command.{Command}
use Rattle.aft_model.specs.declared.script.Line.{Line}
use Rattle.aft_model.specs.Membership.{Incarnation}
use Rattle.aft_model.specs.Opening.{opening}
use Rattle.aft_model.specs.ScanRun.{same_line}
use Rattle.aft_lines.specs.Asked.{Ran}
use Rattle.aft_lines.specs.CausesRounds.{is_collect}
use Rattle.aft_lines.specs.CourseWords.{Ends}
use Rattle.aft_lines.specs.LineView.{LineView}
use Rattle.aft_lines.specs.Turns.{AtDoor, AtNode, AtOffice, Turn}

-- whether a turn has seen no more than so much of the door's history
abbrev pub is_within : ℕ → Turn → Bool
is_within reach (AtDoor place act) = nat_lt place reach
is_within reach (AtNode node before entry) = nat_le entry.front reach
is_within reach (AtOffice before entry) = nat_le entry.front reach

-- ends that say the same of a line which has seen no more
pub record SameWithin (reach : ℕ) (ends other : Ends) : Type 0 where
  pub seen : (place : ℕ) → place ≤ reach → take place ends.seen ≡ take place other.seen
  pub shut_out : (who : Incarnation) (front : ℕ) → front ≤ reach → ends.is_shut_out who front ≡ other.is_shut_out who front
  pub left : ends.is_left ≡ other.is_left

-- and of a collection, which alone asks it, the same of what a node need not have given up
abbrev pub SameKept : Command → Ends → Ends → Type 0
SameKept command ends other = IsTrue (is_collect command) → ends.is_kept ≡ other.is_kept

-- a line whose door's history has grown
abbrev pub with_more : LineView → List DoorEntry → LineView
with_more view more = record view { seen = view.seen ++ more }

-- a run whose door's history has grown
abbrev pub grown : Ran → List DoorEntry → Ran
grown ran more = record ran { trace = record ran.trace { door = ran.trace.door ++ more } }

-- whether an entry at the door is of no line on which another line's view rests: not of the opening, and of that line's client only where it is of a later line
abbrev pub comes_behind : Line → DoorEntry → Bool
comes_behind line entry = not (same_line opening entry.by) && not (entry.by.client == line.client && nat_le entry.by.line line.number)
