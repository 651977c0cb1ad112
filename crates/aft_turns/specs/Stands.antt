-- What stands of a line by the trail of its machine: while it runs, and once it is over.
use Rattle.std.specs.Prelude.{Bool, IsTrue, List, None, Option, Some, [], is_some, length, not, take, true, ℕ, ◌&&◌, ◌++◌, ◌≡◌, ◌≤◌, ◌||◌, ◌∷◌}
use Rattle.std.specs.List.{flat_map, fold, list_all}
use Rattle.aft_model.specs.declared.caller.By.{By}
use Rattle.aft_model.specs.declared.caller.Hold.{Hold}
use Rattle.aft_model.specs.declared.door.DoorEntry.{DoorEntry}
use Rattle.aft_model.specs.declared.reply.Reply.{Reply}
use Rattle.aft_model.specs.declared.script.Command.{Command}
use Rattle.aft_model.specs.History.{at_place}
use Rattle.aft_model.specs.NodeSights.{has_seen, own_entries}
use Rattle.aft_model.specs.Replies.{is_silent}
use Rattle.aft_lines.specs.Advance.{is_led_to_end}
use Rattle.aft_lines.specs.Causes.{Caused}
use Rattle.aft_lines.specs.CausesAttempts.{speaks_of_attempt}
use Rattle.aft_lines.specs.CausesNodes.{earliest}
use Rattle.aft_lines.specs.LegalTrace.{named_node, stands_at, turn_of, turn_words}
use Rattle.aft_lines.specs.LineCourse.{answers_last}
use Rattle.aft_lines.specs.LineView.{LineView, door_entries, door_entry_in, last_front}
use Rattle.aft_lines.specs.Makes.{makes}
use Rattle.aft_lines.specs.RunsSoFar.{position_of}
use Rattle.aft_lines.specs.Turns.{AtDoor, AtNode, Turn, answer_in}
use Rattle.aft_turns.specs.Trail.{Trail}

-- a line as it has run so far: it asks this, of a client that holds this, where nodes keep so many values, and its turns are those of a trail
pub record RanSo (command : Command) (hold : Hold) (capacity : ℕ) (trail : Trail) (view : LineView) : Type 0 where
  pub asked : view.command ≡ command
  pub held : view.hold ≡ hold
  pub cache : view.settings.cache ≡ capacity
  pub turns : view.turns ≡ trail.turns

-- the last turn of a line at a node has seen the door as it was when it last refused a call of the line
abbrev pub HasLooked : Trail → LineView → Type 0
HasLooked trail view = (rest : List DoorEntry) × (take (last_front view) view.seen ≡ trail.look ++ rest)

-- a line that made no entry at the door, but looked at it, did so when that was at least as long as what its client's answer before had seen, and where lines run whole, as all that its own last turn has seen. A machine can't know this by itself; its driver does
abbrev pub LooksLate : Trail → LineView → Type 0
LooksLate trail view = door_entries view ≡ [] → 1 ≤ length trail.look → earliest view.before view ≤ length trail.look

-- what the last of some turns answered
abbrev pub end_answer : List Turn → Option Reply
end_answer line = fold (λ before turn. answer_in turn) None line

-- whether a turn is one of a line that asks this, of a client that holds this: lines of its command make it, it carries the command's words, stands at the line's node, and speaks of the attempt that is held, where the command speaks of one
abbrev pub is_right : Command → Hold → Turn → Bool
is_right command hold turn =
    makes command turn && turn_words command turn && stands_at (named_node command hold) turn && (not (speaks_of_attempt command) || turn_of hold.attempt turn)

-- what stands of any line: its turns lead somewhere in its course, and are those of such a line
pub record GoesRightly (view : LineView) : Type 0 where
  pub leads : IsTrue (is_some (position_of view))
  pub right : IsTrue (list_all (is_right view.command view.hold) view.turns)

-- of one that isn't over: none of its turns has answered
abbrev pub IsUnanswered : LineView → Type 0
IsUnanswered view = IsTrue (list_all (λ turn. is_silent (answer_in turn)) view.turns)

-- of one that is over: its turns are its whole course, the last of them answers, and what it answers has its cause
pub record EndsRightly (view : LineView) : Type 0 where
  pub leads : IsTrue (is_led_to_end (position_of view))
  pub answers : IsTrue (answers_last view.turns)
  pub caused : (reply : Reply) → end_answer view.turns ≡ Some reply → Caused view reply

-- ---- what its turns have seen at the door

-- the turns of a line at the door stand in a history, each at its place
abbrev pub StandIn : By → List Turn → List DoorEntry → Type 0
StandIn by [] seen = Unit
StandIn by (AtDoor place act ∷ turns) seen = (at_place place seen ≡ Some (record { by = by; act = act })) × StandIn by turns seen
StandIn by (turn ∷ turns) seen = StandIn by turns seen

-- a history of the door has, of a line, just what its turns did there
pub record SeesOwn (by : By) (turns : List Turn) (seen : List DoorEntry) : Type 0 where
  pub own : own_entries by seen ≡ flat_map (door_entry_in by) turns
  pub places : StandIn by turns seen

-- whether a turn at a node has seen at the door what it asks, where this is what it has seen
abbrev pub sees : List DoorEntry → Turn → Bool
sees seen (AtNode node before entry) = has_seen node seen entry.by before entry.act entry.answer
sees seen turn = true

-- whether the last of some turns has
abbrev pub last_sees : List DoorEntry → List Turn → Bool
last_sees seen line = fold (λ before turn. sees seen turn) true line
