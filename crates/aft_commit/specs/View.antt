-- What a commit or an abort shows: its line, what its client holds, whether it is an abort, and how far it has come.
use Rattle.std.specs.Prelude.{All, Bool, Err, IsTrue, List, Ok, Option, Result, Some, false, length, nat_le, true, ℕ, ◌+◌, ◌-◌, ◌≡◌, ◌≢◌, ◌≤◌}
use Rattle.std.specs.List.{list_all}
use Rattle.aft_id.specs.TxnId.{IsUuid}
use Rattle.aft_records.specs.declared.stored.Origin.{Origin}
use Rattle.aft_records.specs.declared.stored.Record.{Record}
use Rattle.aft_records.specs.Limits.{IsTime}
use Rattle.aft_records.specs.Stored.{AreReads}
use Rattle.aft_model.specs.declared.caller.Attempt.{Attempt}
use Rattle.aft_model.specs.declared.caller.By.{By}
use Rattle.aft_model.specs.declared.caller.Hold.{Hold}
use Rattle.aft_model.specs.declared.reply.Reply.{Reply}
use Rattle.aft_model.specs.declared.reply.Reply.TheVariants as replies
use Rattle.aft_model.specs.Membership.{incarnation}
use Rattle.aft_model.specs.NodeRules.{is_doubt}
use Rattle.aft_lines.specs.CourseWords.{caller_of}
use Rattle.aft_door.specs.declared.fault.DoorFault.{DoorFault}
use Rattle.aft_door.specs.declared.fault.DoorFault.TheVariants as faults
use Rattle.aft_node.specs.declared.goes.StartGo.{StartGo}
use Rattle.aft_node.specs.declared.goes.StartGo.TheVariants as starts
use Rattle.aft_commit.specs.declared.outcome.Outcome.{Outcome}
use Rattle.aft_commit.specs.declared.outcome.Outcome.TheVariants.{Absent, Left, Stored}
use Rattle.aft_commit.specs.declared.sight.Sight.{Sight}
use Rattle.aft_commit.specs.declared.sight.Sight.TheVariants as sights
use Rattle.aft_commit.specs.declared.stage.Stage.{Stage}
use Rattle.aft_commit.specs.declared.stage.Stage.TheVariants.{Begins, Doubts, Ended, Ends, Failed, Recorded, Releases, Settles, ShutOut, Stores}
use Rattle.aft_turns.specs.Refusals.{refusal_of}
use Rattle.aft_turns.specs.declared.turn.Where.{Where}
use Rattle.aft_turns.specs.declared.turn.Where.TheVariants as places

pub record FinishView : Type 0 where
  pub by : By
  pub hold : Hold
  pub aborts : Bool
  pub stage : Stage

-- where its next turn is
abbrev pub next_at : ℕ → Stage → Where
next_at node Begins = places.Node node
next_at node (Settles a r values) = places.Door
next_at node (Stores a r values count) = places.Door
next_at node (Failed a r) = places.Door
next_at node (Recorded a r) = places.Node node
next_at node (Releases a uuid outcome) = places.Door
next_at node (Doubts a reply) = places.Node node
next_at node (Ends a uuid outcome) = places.Node node
next_at node (ShutOut a) = places.Node node
next_at node Ended = places.Done

abbrev pub next_of : FinishView → Where
next_of finish = next_at finish.hold.node finish.stage

-- how many turns are left at most: a get, a put of each version and one of the record, a get, the storing, the release and the end
abbrev pub left_at : Stage → ℕ
left_at Begins = 39
left_at (Settles a r values) = 38
left_at (Stores a r values count) = length r.commit.keys - count + 5
left_at (Failed a r) = 4
left_at (Recorded a r) = 3
left_at (Releases a uuid outcome) = 2
left_at (Doubts a reply) = 1
left_at (Ends a uuid outcome) = 1
left_at (ShutOut a) = 1
left_at Ended = 0

abbrev pub left_of : FinishView → ℕ
left_of finish = left_at finish.stage

-- the attempt is of the node, and what it is to be left in doubt with is what it may be
abbrev pub FitsAt : ℕ → Stage → Type 0
FitsAt node (Settles a r values) = a.node ≡ node
FitsAt node (Stores a r values count) = a.node ≡ node
FitsAt node (Failed a r) = a.node ≡ node
FitsAt node (Recorded a r) = a.node ≡ node
FitsAt node (Releases a uuid outcome) = a.node ≡ node
FitsAt node (Doubts a reply) = (a.node ≡ node) × IsTrue (is_doubt (Some reply))
FitsAt node (Ends a uuid outcome) = a.node ≡ node
FitsAt node (ShutOut a) = a.node ≡ node
FitsAt node stage = Unit {0}

-- the first turn reads this clock; no other turn reads one
abbrev pub reads_clock_at : Stage → ℕ → ℕ → Type 0
reads_clock_at Begins now clock = now ≡ clock
reads_clock_at stage now clock = Unit {0}

abbrev pub ReadsClock : FinishView → ℕ → ℕ → Type 0
ReadsClock finish now clock = reads_clock_at finish.stage now clock

-- ---- where turns lead

-- what is answered at the end
abbrev pub told_of : Outcome → Reply
told_of (Stored id) = replies.Committed id
told_of Absent = replies.Aborted
told_of (Left true) = replies.Aborted
told_of (Left false) = replies.Ended

-- how far the first turn leads
abbrev pub opened_stage : StartGo → Option Attempt → Bool → Stage
opened_stage (starts.Store who r values) (Some a) aborts = Stores a r values 0
opened_stage (starts.Settle who r values) (Some a) aborts = Settles a r values
opened_stage (starts.Release who uuid) (Some a) aborts = Releases a uuid (Left aborts)
opened_stage go attempt aborts = Ended

-- how far the look that settles a doubt leads
abbrev pub settled_stage : Sight → Bool → Attempt → Record → List (List ℕ) → Stage
settled_stage sights.Recorded aborts a r values = Recorded a r
settled_stage sights.Absent true a r values = Releases a r.commit.id.uuid Absent
settled_stage sights.Absent false a r values = Stores a r values 0
settled_stage sights.Failed aborts a r values = Doubts a replies.StoreFault
settled_stage (sights.Refused reply) aborts a r values = Doubts a reply

-- how far the look behind a put of the record that failed leads
abbrev pub looked_stage : Sight → Attempt → Record → Stage
looked_stage sights.Recorded a r = Recorded a r
looked_stage sights.Absent a r = Doubts a replies.StoreFault
looked_stage sights.Failed a r = Doubts a replies.InDoubt
looked_stage (sights.Refused reply) a r = Doubts a reply

-- how far the put of a version leads, and that of the record
abbrev pub version_stage : Attempt → Record → List (List ℕ) → ℕ → Result Unit DoorFault → Stage
version_stage a r values count (Ok x) = Stores a r values (count + 1)
version_stage a r values count (Err fault) = Doubts a (refusal_of a fault)

abbrev pub record_stage : Attempt → Record → Result Unit DoorFault → Stage
record_stage a r (Ok x) = Recorded a r
record_stage a r (Err faults.Failed) = Failed a r
record_stage a r (Err fault) = Doubts a (refusal_of a fault)

-- how far the release leads, which was made or not
abbrev pub released_stage : Bool → Attempt → List ℕ → Outcome → Stage
released_stage true a uuid outcome = Ends a uuid outcome
released_stage false a uuid (Left aborts) = ShutOut a
released_stage false a uuid outcome = Doubts a (replies.NodeDown a.node a.inc)

-- ---- what is stored

-- what the origin of a node's record must be, but that its incarnation is below 2^32, which its type says
pub record IsNodeOrigin (o : Origin) : Type 0 where
  pub most : o.node ≤ 8
  pub least : 1 ≤ o.inc
  pub reads : AreReads o.reads
  pub uuids : All (λ id. IsUuid id.uuid) o.reads

-- what a record must be to be put for an attempt: it names the attempt's incarnation as its origin, and keeps the limits
pub record StorableRecord (a : Attempt) (r : Record) : Type 0 where
  pub node : a.node ≢ 0
  pub own : incarnation r.origin.node r.origin.inc ≡ caller_of a
  pub timely : IsTime r.commit.id.time
  pub origin : IsNodeOrigin r.origin

-- the same with the values of its versions, each of at most 4,096 bytes
pub record Storable (a : Attempt) (r : Record) (values : List (List ℕ)) : Type 0 where
  pub written_fits : StorableRecord a r
  pub short : IsTrue (list_all (λ value. nat_le (length value) 4096) values)

abbrev pub is_storable_at : Stage → Type 0
is_storable_at (Stores a r values count) = Storable a r values
is_storable_at stage = Unit {0}

abbrev pub IsStorable : FinishView → Type 0
IsStorable finish = is_storable_at finish.stage

-- ---- failures

-- whether a reply tells of a fence, of damage, or that memory was wanting
abbrev pub tells_refusal : Reply → Bool
tells_refusal (replies.NodeDown node inc) = true
tells_refusal (replies.Damaged name) = true
tells_refusal replies.NoMemory = true
tells_refusal reply = false

-- whether what a look shows of no use is told so
abbrev pub is_doubtful : Sight → Bool
is_doubtful (sights.Refused reply) = tells_refusal reply
is_doubtful sight = true

-- whether it is told that the store failed
abbrev pub tells_fault : Reply → Bool
tells_fault replies.StoreFault = true
tells_fault reply = false

-- and that the put of the record and the look behind it failed
abbrev pub tells_doubt : Reply → Bool
tells_doubt replies.InDoubt = true
tells_doubt reply = false

-- whether a stage is that behind a call that failed
abbrev pub has_put_failed : Stage → Bool
has_put_failed (Failed a r) = true
has_put_failed (Doubts a reply) = tells_fault reply
has_put_failed stage = false

-- and behind the look after a put of the record that failed
abbrev pub has_look_failed : Stage → Bool
has_look_failed (Doubts a reply) = tells_doubt reply
has_look_failed stage = false

-- whether the call between two stages failed
abbrev pub has_failed_at : Stage → Stage → Bool
has_failed_at (Failed a r) new = has_look_failed new
has_failed_at old new = has_put_failed new

abbrev pub has_failed : FinishView → FinishView → Bool
has_failed old new = has_failed_at old.stage new.stage
