-- Which turns a commit or an abort has made, by how far it has come: where they have led, and what they are.
use Rattle.std.specs.Prelude.{Bool, IsTrue, List, Some, drop, false, map, true, ℕ, ◌&&◌, ◌==◌, ◌≡◌, ◌⊎◌, ◌++◌, ◌∷◌, []}
use Rattle.std.specs.List.{list_all}
use Rattle.aft_records.specs.declared.stored.Record.{Record}
use Rattle.aft_model.specs.declared.caller.Attempt.{Attempt}
use Rattle.aft_model.specs.declared.caller.By.{By}
use Rattle.aft_model.specs.declared.caller.Hold.{Hold}
use Rattle.aft_model.specs.declared.door.DoorEntry.{DoorEntry}
use Rattle.aft_model.specs.declared.node.NodeAct.{NodeAct}
use Rattle.aft_model.specs.declared.node.NodeAct.TheVariants as acts
use Rattle.aft_model.specs.declared.node.NodeEntry.{NodeEntry}
use Rattle.aft_model.specs.declared.reply.Reply.{Reply}
use Rattle.aft_model.specs.declared.reply.Reply.TheVariants as replies
use Rattle.aft_model.specs.declared.script.Command.{Command}
use Rattle.aft_model.specs.declared.script.Command.TheVariants as commands
use Rattle.aft_model.specs.Attempts.{Write, written_keys}
use Rattle.aft_model.specs.NodeSights.{is_fenced, own_entries}
use Rattle.aft_model.specs.NodeState.{node_state}
use Rattle.aft_model.specs.Membership.{Incarnation}
use Rattle.aft_model.specs.Replies.{is_silent}
use Rattle.aft_lines.specs.Advance.{is_led_to_end, leads_to}
use Rattle.aft_lines.specs.CommitCourse.{Storing}
use Rattle.aft_lines.specs.CourseWords.{Ends, caller_of, tells_no_memory, tells_refused}
use Rattle.aft_lines.specs.LineView.{has_left}
use Rattle.aft_lines.specs.LineCourse.{answers_last}
use Rattle.aft_lines.specs.Progress.{EndsAborted, EndsCommitted, EndsLeft, FoundAborted, HasFailed, IsNodeStored, IsRecorded, IsStoring, MustDoubt, MustEnd, MustLeave, Progress, Settling}
use Rattle.aft_lines.specs.Progress.{Outcome as Ending}
use Rattle.aft_lines.specs.Turns.{AtNode, Turn, answer_in, end_front}
use Rattle.aft_commit.specs.declared.outcome.Outcome.{Outcome}
use Rattle.aft_commit.specs.declared.outcome.Outcome.TheVariants.{Absent, Left, Stored}
use Rattle.aft_commit.specs.declared.stage.Stage.{Stage}
use Rattle.aft_commit.specs.declared.stage.Stage.TheVariants as stages
use Rattle.aft_commit.specs.View.{FinishView}
use Rattle.aft_commit.specs.Told.{entries_by, told_at}
use Rattle.aft_turns.specs.Stands.{is_right, last_sees}
use Rattle.aft_turns.specs.Trail.{Trail, no_trail}

-- ---- any turn

-- the command of a line that aborts, or commits
abbrev pub command_of : Bool → Command
command_of true = commands.Abort
command_of false = commands.Commit

-- whether a turn reads this clock, if it reads one
abbrev pub act_reads : ℕ → NodeAct → Bool
act_reads clock (acts.Start a now c) = now == clock
act_reads clock act = true

abbrev pub turn_reads : ℕ → Turn → Bool
turn_reads clock (AtNode node before entry) = act_reads clock entry.act
turn_reads clock turn = true

-- whether a turn is one of such a line, of a client that holds this, and reads this clock
abbrev pub is_own : ℕ → Hold → Bool → Turn → Bool
is_own clock hold aborts turn = is_right (command_of aborts) hold turn && turn_reads clock turn

-- whether it answers nothing besides
abbrev pub is_own_silent : ℕ → Hold → Bool → Turn → Bool
is_own_silent clock hold aborts turn = is_own clock hold aborts turn && is_silent (answer_in turn)

-- in each history of the door that has of the line just what these turns did there, the last of them has seen what it asks
abbrev pub LastSees : By → List Turn → Type 0
LastSees by turns = (seen : List DoorEntry) → own_entries by seen ≡ entries_by by turns → IsTrue (last_sees seen turns)

-- ---- before the last turn

-- turns lead to a position, whatever their line's ends rest on
abbrev pub LeadTo : Bool → List Turn → Progress → Type 0
LeadTo aborts turns position = (nodes : List ℕ) (ends : Ends) → leads_to (command_of aborts) nodes ends turns ≡ Some position

-- a line that has come to a position, of an attempt that its client holds, which is of the line's node: none of its turns has answered
pub record HasCome (clock : ℕ) (by : By) (hold : Hold) (aborts : Bool) (a : Attempt) (position : Progress) (trail : Trail) : Type 0 where
  pub held : hold.attempt ≡ Some a
  pub place : a.node ≡ hold.node
  pub own : IsTrue (list_all (is_own_silent clock hold aborts) trail.turns)
  pub leads : LeadTo aborts trail.turns position
  pub sees : LastSees by trail.turns

-- what is stored of these writes
abbrev pub storing_with : Attempt → Record → List Write → Storing
storing_with a r writes = record { attempt = a; written = r; writes = writes }

-- the record is of these writes
abbrev pub IsOf : Record → List Write → Type 0
IsOf r writes = r.commit.keys ≡ written_keys writes

-- and these are their values
abbrev pub AreValues : List (List ℕ) → List Write → Type 0
AreValues values writes = values ≡ map (λ write. write.value) writes

-- why an attempt is to be left in doubt with an answer, by the position: a call was refused; memory was wanting for the storing; the release was refused, since the look showed its incarnation fenced; or what was shown leads into doubt with any answer
abbrev pub MayDoubt : Attempt → List DoorEntry → Reply → Progress → Type 0
MayDoubt a look reply (Settling aborts storing) = (storing.attempt ≡ a) × IsTrue (tells_refused (Some reply))
MayDoubt a look reply (IsStoring storing writes) = (storing.attempt ≡ a) × IsTrue (tells_refused (Some reply))
MayDoubt a look reply (HasFailed storing) = (storing.attempt ≡ a) × IsTrue (tells_refused (Some reply))
MayDoubt a look reply (IsRecorded storing) = (storing.attempt ≡ a) × IsTrue (tells_no_memory (Some reply))
MayDoubt a look reply (IsNodeStored storing) = (storing.attempt ≡ a) × (reply ≡ replies.NodeDown a.node a.inc) × IsTrue (is_fenced (caller_of a) look)
MayDoubt a look reply (FoundAborted storing) =
    (storing.attempt ≡ a) × (((reply ≡ replies.NodeDown a.node a.inc) × IsTrue (is_fenced (caller_of a) look)) ⊎ (reply ≡ replies.NoMemory))
MayDoubt a look reply (MustDoubt storing) = storing.attempt ≡ a
MayDoubt a look reply position = ⊥

-- the position of an end
abbrev pub ending_of : Outcome → Ending
ending_of (Stored id) = EndsCommitted
ending_of Absent = EndsAborted
ending_of (Left aborts) = EndsLeft aborts

-- the position before the release, of a UUID
abbrev pub IsToRelease : Attempt → List ℕ → Outcome → Progress → Type 0
IsToRelease a uuid (Stored id) position =
    (r : Record) × (writes : List Write) × (position ≡ IsNodeStored (storing_with a r writes)) × (uuid ≡ r.commit.id.uuid) × (id ≡ r.commit.id)
IsToRelease a uuid Absent position = (r : Record) × (writes : List Write) × (position ≡ FoundAborted (storing_with a r writes)) × (uuid ≡ r.commit.id.uuid)
IsToRelease a uuid (Left aborts) position = position ≡ MustLeave aborts a uuid

-- ---- the last turn

-- ends that fit a line which last looked at the door as it was: what a node has left it has left, and what the look showed fenced the last turn has seen shut out
pub record FitEnds (look : List DoorEntry) (turns : List Turn) (ends : Ends) : Type 0 where
  pub left : (inc : ℕ) (before : List NodeEntry) → IsTrue (has_left inc (node_state before)) → IsTrue (ends.is_left inc (node_state before))
  pub shut_out : (who : Incarnation) → IsTrue (is_fenced who look) → IsTrue (ends.is_shut_out who (end_front turns))

-- a line that is over: its turns are its whole course, and the last alone answers
pub record HasEnded (clock : ℕ) (by : By) (hold : Hold) (aborts : Bool) (trail : Trail) : Type 0 where
  pub since : List Turn
  pub last : Turn
  pub turns : trail.turns ≡ since ++ last ∷ []
  pub own : IsTrue (list_all (is_own_silent clock hold aborts) since)
  pub last_own : IsTrue (is_own clock hold aborts last)
  pub answers : IsTrue (answers_last trail.turns)
  pub leads : (nodes : List ℕ) (ends : Ends) → FitEnds trail.look trail.turns ends → IsTrue (is_led_to_end (leads_to (command_of aborts) nodes ends trail.turns))
  pub sees : LastSees by trail.turns

-- where the turns of a commit or an abort have led by a stage
abbrev pub led_at : ℕ → By → Hold → Bool → Stage → Trail → Type 0
led_at clock by hold aborts stages.Begins trail = trail ≡ no_trail
led_at clock by hold aborts (stages.Settles a r values) trail =
    (writes : List Write) × IsOf r writes × (aborts ≡ false → AreValues values writes) × HasCome clock by hold aborts a (Settling aborts (storing_with a r writes)) trail
led_at clock by hold aborts (stages.Stores a r values count) trail =
    (writes : List Write) × IsOf r writes × AreValues values writes × (aborts ≡ false) × HasCome clock by hold aborts a (IsStoring (storing_with a r writes) (drop count writes)) trail
led_at clock by hold aborts (stages.Failed a r) trail = (writes : List Write) × HasCome clock by hold aborts a (HasFailed (storing_with a r writes)) trail
led_at clock by hold aborts (stages.Recorded a r) trail = (writes : List Write) × HasCome clock by hold aborts a (IsRecorded (storing_with a r writes)) trail
led_at clock by hold aborts (stages.Releases a uuid outcome) trail = (position : Progress) × IsToRelease a uuid outcome position × HasCome clock by hold aborts a position trail
led_at clock by hold aborts (stages.Doubts a reply) trail = (position : Progress) × MayDoubt a trail.look reply position × HasCome clock by hold aborts a position trail
led_at clock by hold aborts (stages.Ends a uuid outcome) trail = HasCome clock by hold aborts a (MustEnd a (ending_of outcome)) trail
led_at clock by hold aborts (stages.ShutOut a) trail =
    (leaves : Bool) × (uuid : List ℕ) × HasCome clock by hold aborts a (MustLeave leaves a uuid) trail × IsTrue (is_fenced (caller_of a) trail.look)
led_at clock by hold aborts stages.Ended trail = HasEnded clock by hold aborts trail

-- what a commit or an abort has made by a stage: where its turns have led, and what it was told
abbrev pub made_at : ℕ → By → Hold → Bool → Stage → Trail → Type 0
made_at clock by hold aborts stage trail = led_at clock by hold aborts stage trail × told_at clock by hold aborts stage trail

-- a commit or an abort has made these turns
abbrev pub Made : ℕ → FinishView → Trail → Type 0
Made clock finish trail = made_at clock finish.by finish.hold finish.aborts finish.stage trail
