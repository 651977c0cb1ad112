-- What a commit or an abort was told by a stage: what its first turn found, and what the door showed it since. Its answer rests on it.
use Rattle.std.specs.Prelude.{Bool, IsTrue, List, None, Option, Some, [], false, take, true, ℕ, ◌++◌, ◌==◌, ◌≡◌, ◌⊎◌, ◌∷◌, ◌&&◌, not}
use Rattle.std.specs.List.{flat_map, list_all, list_any}
use Rattle.std.specs.Option.{ForSome}
use Rattle.aft_records.specs.declared.stored.Commit.{Commit}
use Rattle.aft_model.specs.declared.caller.Attempt.{Attempt}
use Rattle.aft_model.specs.declared.caller.By.{By}
use Rattle.aft_model.specs.declared.caller.Hold.{Hold}
use Rattle.aft_model.specs.declared.door.DoorEntry.{DoorEntry}
use Rattle.aft_model.specs.declared.node.NodeAct.{NodeAct}
use Rattle.aft_model.specs.declared.node.NodeAct.TheVariants as acts
use Rattle.aft_model.specs.declared.node.NodeEntry.{NodeEntry}
use Rattle.aft_model.specs.declared.reply.Reply.{Reply}
use Rattle.aft_model.specs.declared.reply.Reply.TheVariants as replies
use Rattle.aft_model.specs.Attempts.{attempt_state, is_in_doubt}
use Rattle.aft_model.specs.DoorKnowledge.{stores_version}
use Rattle.aft_model.specs.Evidence.{shows_absent}
use Rattle.aft_model.specs.History.{first_of}
use Rattle.aft_model.specs.NodeSights.{is_fenced, is_stored_by}
use Rattle.aft_model.specs.NodeState.{node_state, part, service}
use Rattle.aft_model.specs.Opening.{has_failed}
use Rattle.aft_model.specs.Readings.{record_name}
use Rattle.aft_ledger.specs.View.{NodeView}
use Rattle.aft_lines.specs.CausesAttempts.{is_ready, passes_end, state_in}
use Rattle.aft_lines.specs.CausesCommits.{fails_both, fails_get, fails_put}
use Rattle.aft_lines.specs.CausesScans.{damage_in, is_written_name}
use Rattle.aft_lines.specs.CourseWords.{caller_of}
use Rattle.aft_lines.specs.LineView.{door_entry_in, fixed_by, has_left, is_served}
use Rattle.aft_lines.specs.Turns.{AtNode, Turn}
use Rattle.aft_node.specs.Committing.{end_refusal}
use Rattle.aft_commit.specs.Asks.{may_end_with}
use Rattle.aft_commit.specs.View.{told_of}
use Rattle.aft_commit.specs.declared.outcome.Outcome.{Outcome}
use Rattle.aft_commit.specs.declared.outcome.Outcome.TheVariants.{Absent, Left, Stored}
use Rattle.aft_commit.specs.declared.stage.Stage.{Stage}
use Rattle.aft_commit.specs.declared.stage.Stage.TheVariants as stages
use Rattle.aft_turns.specs.Trail.{Trail}

-- ---- what the first turn found

-- a turn of the line at its node
abbrev pub turn_at : By → ℕ → List NodeEntry → ℕ → NodeAct → Option Reply → Turn
turn_at by node before front act answer = AtNode node before (record { front = front; by = by; act = act; answer = answer })

-- the line went on from its first turn, which did this at its node
pub record HasBegun (by : By) (made : List Turn) : Type 0 where
  pub node : ℕ
  pub before : List NodeEntry
  pub front : ℕ
  pub act : NodeAct
  pub rest : List Turn
  pub turns : made ≡ turn_at by node before front act None ∷ rest

-- it is to store or to settle this commit, which its attempt has fixed behind the first turn; an abort found that in doubt
pub record IsToStore (by : By) (hold : Hold) (aborts : Bool) (c : Commit) (made : List Turn) : Type 0 where
  pub begun : HasBegun by made
  pub fixed : fixed_by hold.attempt (part (begun.before ++ record { front = begun.front; by = by; act = begun.act; answer = None } ∷ [])) ≡ Some c
  pub doubted : aborts ≡ true → IsTrue (is_served (λ a serving. is_in_doubt (state_in a serving)) hold.attempt (service begun.before))

-- with how many keys in its buffer an attempt may leave: by an abort with any, and by a commit with none
abbrev pub may_leave_with : Bool → ℕ → Bool
may_leave_with true count = true
may_leave_with false count = count == 0

-- its attempt is to leave, and the first turn found it ready for that
pub record IsToLeave (by : By) (hold : Hold) (aborts : Bool) (made : List Turn) : Type 0 where
  pub begun : HasBegun by made
  pub ready : IsTrue (is_served (is_ready (may_leave_with aborts)) hold.attempt (service begun.before))

-- ---- what the door showed since

-- what turns did at the door, as entries of a line
abbrev pub entries_by : By → List Turn → List DoorEntry
entries_by by made = flat_map (door_entry_in by) made

-- no damage was shown, to a line that is to store this commit
abbrev pub Undamaged : Commit → List Turn → Type 0
Undamaged c made = (by : By) → flat_map (damage_in (Some c)) (entries_by by made) ≡ []

-- no call failed, and no damage was shown
pub record IsQuiet (c : Commit) (made : List Turn) : Type 0 where
  pub unfailed : (by : By) → has_failed (entries_by by made) ≡ false
  pub undamaged : Undamaged c made

-- the put of the record failed, no get of it did, and no damage was shown
pub record HasFailedPut (c : Commit) (made : List Turn) : Type 0 where
  pub put : (by : By) → IsTrue (list_any (λ entry. fails_put (record_name c.id.uuid) entry.act) (entries_by by made))
  pub got : (by : By) → list_any (λ entry. fails_get (record_name c.id.uuid) entry.act) (entries_by by made) ≡ false
  pub undamaged : Undamaged c made

-- a call failed, but not both the put of the record and a get of it behind that, and no damage was shown
pub record HasFault (c : Commit) (made : List Turn) : Type 0 where
  pub failed : (by : By) → IsTrue (has_failed (entries_by by made))
  pub settled : (by : By) → fails_both c (entries_by by made) ≡ false
  pub undamaged : Undamaged c made

-- both the put of the record and a get of it behind that failed
abbrev pub BothFailed : Commit → List Turn → Type 0
BothFailed c made = (by : By) → IsTrue (fails_both c (entries_by by made))

-- the first damage that was shown has this name
abbrev pub FirstDamage : Commit → List ℕ → List Turn → Type 0
FirstDamage c name made = (by : By) → IsTrue (is_written_name name (first_of (flat_map (damage_in (Some c)) (entries_by by made))))

-- the record was put and acknowledged, or shown
abbrev pub IsStored : Commit → List Turn → Type 0
IsStored c made = (by : By) → IsTrue (is_stored_by c (entries_by by made))

-- it was shown that no record of the UUID is there
abbrev pub IsAbsent : List ℕ → List Turn → Type 0
IsAbsent uuid made = (by : By) → IsTrue (list_any (shows_absent (record_name uuid)) (entries_by by made))

-- the versions of the first so many keys were put by the attempt's incarnation, and that was acknowledged
abbrev pub ArePut : Attempt → Commit → ℕ → List Turn → Type 0
ArePut a c count made = (by : By) → IsTrue (list_all (λ key. list_any (λ entry. stores_version (caller_of a) key c.id entry.act) (entries_by by made)) (take count c.keys))

-- ---- why it answers what it does

-- a doubt is told so, of a line that last looked at the door as it was
abbrev pub ToldDoubt : Attempt → List DoorEntry → Bool → Commit → List Turn → Reply → Type 0
ToldDoubt a look aborts c made replies.StoreFault = HasFault c made
ToldDoubt a look aborts c made replies.InDoubt = (aborts ≡ false) × BothFailed c made
ToldDoubt a look aborts c made (replies.Damaged name) = FirstDamage c name made
ToldDoubt a look aborts c made (replies.NodeDown node inc) = (node ≡ a.node) × (inc ≡ a.inc) × IsTrue (is_fenced (caller_of a) look)
ToldDoubt a look aborts c made replies.NoMemory = Unit
ToldDoubt a look aborts c made reply = ⊥

-- an end is told so: the commit, of this id, is stored; an abort found no record of this UUID; or the attempt leaves
abbrev pub ToldEnd : By → Hold → Bool → List ℕ → Outcome → List Turn → Type 0
ToldEnd by hold aborts uuid (Stored id) made = (c : Commit) × (id ≡ c.id) × IsToStore by hold aborts c made × IsStored c made
ToldEnd by hold aborts uuid Absent made = (c : Commit) × (uuid ≡ c.id.uuid) × (aborts ≡ true) × IsToStore by hold aborts c made × IsAbsent uuid made
ToldEnd by hold aborts uuid (Left leaves) made = (leaves ≡ aborts) × IsToLeave by hold aborts made

-- ---- the last turn

-- the first turn answered at once: memory was wanting, the line was refused so, or the time of its commit would pass the last one
abbrev pub AnswersAtOnce : ℕ → Hold → Bool → NodeView → Reply → Type 0
AnswersAtOnce clock hold aborts node reply =
    (reply ≡ replies.NoMemory)
    ⊎ ((end_refusal hold.attempt node ≡ Some reply) × ForSome hold.attempt (λ a. a.node ≡ node.number))
    ⊎ ((aborts ≡ false) × (reply ≡ replies.ClockEnd) × IsTrue (is_served (λ a serving. is_ready (λ count. not (count == 0)) a serving && passes_end (Some clock) a serving) hold.attempt (service node.history)))

-- a line whose first turn answered
pub record EndedAtOnce (clock : ℕ) (by : By) (hold : Hold) (aborts : Bool) (trail : Trail) : Type 0 where
  pub node : NodeView
  pub front : ℕ
  pub reply : Reply
  pub turns : trail.turns ≡ turn_at by node.number node.history front acts.Nothing (Some reply) ∷ []
  pub answers : AnswersAtOnce clock hold aborts node reply

-- how the last of several turns may end it: the attempt is left in doubt, ends, or is lost since its node is down
pub data Closing : Type 0 where
  IsDoubted : Reply → Closing
  IsEnded : List ℕ → Outcome → Closing
  IsDown : Closing

-- what that turn does, and what it answers
abbrev pub closing_act : Attempt → Closing → NodeAct
closing_act a (IsDoubted reply) = acts.Doubt a
closing_act a (IsEnded uuid outcome) = acts.End a
closing_act a IsDown = acts.Nothing

abbrev pub closing_reply : Attempt → Closing → Reply
closing_reply a (IsDoubted reply) = reply
closing_reply a (IsEnded uuid outcome) = told_of outcome
closing_reply a IsDown = replies.NodeDown a.node a.inc

-- it ends so rightly: where it is down the node has left the attempt's incarnation, or the look showed that fenced
abbrev pub Closes : By → Hold → Bool → Attempt → List DoorEntry → List Turn → List NodeEntry → Closing → Type 0
Closes by hold aborts a look made before (IsDoubted reply) = (c : Commit) × IsToStore by hold aborts c made × ToldDoubt a look aborts c made reply
Closes by hold aborts a look made before (IsEnded uuid outcome) = ToldEnd by hold aborts uuid outcome made × IsTrue (may_end_with uuid outcome (attempt_state a (part before)))
Closes by hold aborts a look made before IsDown = HasBegun by made × (IsTrue (has_left a.inc (node_state before)) ⊎ IsTrue (is_fenced (caller_of a) look))

-- a line that ended behind its first turn
pub record EndedLater (by : By) (hold : Hold) (aborts : Bool) (trail : Trail) : Type 0 where
  pub attempt : Attempt
  pub held : hold.attempt ≡ Some attempt
  pub since : List Turn
  pub node : ℕ
  pub before : List NodeEntry
  pub front : ℕ
  pub closing : Closing
  pub turns : trail.turns ≡ since ++ turn_at by node before front (closing_act attempt closing) (Some (closing_reply attempt closing)) ∷ []
  pub closes : Closes by hold aborts attempt trail.look since before closing

-- what it was told by a stage
abbrev pub told_at : ℕ → By → Hold → Bool → Stage → Trail → Type 0
told_at clock by hold aborts stages.Begins trail = Unit
told_at clock by hold aborts (stages.Settles a r values) trail = IsToStore by hold aborts r.commit trail.turns × IsQuiet r.commit trail.turns
told_at clock by hold aborts (stages.Stores a r values count) trail = IsToStore by hold aborts r.commit trail.turns × IsQuiet r.commit trail.turns × ArePut a r.commit count trail.turns
told_at clock by hold aborts (stages.Failed a r) trail = (aborts ≡ false) × IsToStore by hold aborts r.commit trail.turns × HasFailedPut r.commit trail.turns
told_at clock by hold aborts (stages.Recorded a r) trail = IsToStore by hold aborts r.commit trail.turns × IsStored r.commit trail.turns
told_at clock by hold aborts (stages.Releases a uuid outcome) trail = ToldEnd by hold aborts uuid outcome trail.turns
told_at clock by hold aborts (stages.Doubts a reply) trail = (c : Commit) × IsToStore by hold aborts c trail.turns × ToldDoubt a trail.look aborts c trail.turns reply
told_at clock by hold aborts (stages.Ends a uuid outcome) trail = ToldEnd by hold aborts uuid outcome trail.turns
told_at clock by hold aborts (stages.ShutOut a) trail = HasBegun by trail.turns
told_at clock by hold aborts stages.Ended trail = EndedAtOnce clock by hold aborts trail ⊎ EndedLater by hold aborts trail
