-- What the turns of commits and aborts do.
use Rattle.std.specs.Prelude.{Bool, IsTrue, List, None, Option, Some, [], false, if◌then◌else◌, length, map, true, ℕ, ◌==◌, ◌⊎◌, ◌≡◌}
use Rattle.aft_id.specs.TxnId.{same_id}
use Rattle.aft_records.specs.declared.stored.Commit.{Commit}
use Rattle.aft_records.specs.declared.stored.Record.{Record}
use Rattle.aft_records.specs.Limits.{is_time}
use Rattle.aft_model.specs.declared.caller.Attempt.{Attempt}
use Rattle.aft_model.specs.declared.caller.By.{By}
use Rattle.aft_model.specs.declared.caller.Caller.{Caller}
use Rattle.aft_model.specs.declared.node.NodeAct.TheVariants as acts
use Rattle.aft_model.specs.declared.reply.Reply.{Reply}
use Rattle.aft_model.specs.declared.reply.Reply.TheVariants as replies
use Rattle.aft_model.specs.Attempts.{AttemptState, IsGone, IsInDoubt, IsRunning, buffer, fixed_commit, is_in_doubt, is_running, open_reads, uuid_of}
use Rattle.aft_model.specs.NodeState.{part}
use Rattle.aft_model.specs.Origins.{record_by}
use Rattle.aft_ledger.specs.Turns.{commit_of, is_doing}
use Rattle.aft_ledger.specs.View.{NodeView, after_entry, answered}
use Rattle.aft_node.specs.Held.{doing, held_refusal}
use Rattle.aft_node.specs.Outcomes.{caller, down_reply}
use Rattle.aft_node.specs.declared.goes.StartGo.{StartGo}
use Rattle.aft_node.specs.declared.goes.StartGo.TheVariants as starts
use Rattle.aft_node.specs.declared.node.finish.Ending.{Ending}
use Rattle.aft_node.specs.declared.node.finish.Ending.TheVariants as endings
use Rattle.aft_txn.specs.declared.state.State.{State}
use Rattle.aft_txn.specs.declared.state.State.TheVariants as states

-- ---- why they are refused

-- whether an attempt has buffered nothing
abbrev pub writes_nothing : Attempt → NodeView → Bool
writes_nothing a node = length (buffer a (part node.history)) == 0

-- why an attempt that runs doesn't finish: a read of it isn't over
abbrev pub open_refusal : Attempt → NodeView → Option Reply
open_refusal a node = if open_reads a (part node.history) == 0 then None else Some (replies.OpenReads (open_reads a (part node.history)))

-- why an attempt doesn't finish, by what it is doing: where it runs, for this reason or none
abbrev pub finish_refusal : Option Reply → AttemptState → Option Reply
finish_refusal why IsGone = Some replies.NoTransaction
finish_refusal why IsRunning = why
finish_refusal why (IsInDoubt c) = None
finish_refusal why state = Some replies.Committing

-- why a commit or an abort is refused
abbrev pub end_refusal : Option Attempt → NodeView → Option Reply
end_refusal attempt node = held_refusal (λ a. finish_refusal (open_refusal a node) (doing node a)) attempt node

-- ---- what they lead to

-- the record of a commit of an attempt
abbrev pub record_of : Attempt → NodeView → Commit → Record
record_of a node c = record_by a (part node.history) c

-- what an attempt has buffered, in key order
abbrev pub values_of : Attempt → NodeView → List (List ℕ)
values_of a node = map (λ write. write.value) (buffer a (part node.history))

-- the caller of the door for an attempt
abbrev pub caller_for : Attempt → By → NodeView → Caller
caller_for a by node = caller node.number a.inc by

-- an attempt leaves
abbrev pub left : ℕ → By → Attempt → NodeView → NodeView
left handed by a node = after_entry handed by (acts.Leave a) None node

abbrev pub left_go : By → Attempt → NodeView → StartGo
left_go by a node = starts.Release (caller_for a by node) (uuid_of a (part node.history))

-- a commit in doubt is settled
abbrev pub settled : ℕ → By → Attempt → NodeView → NodeView
settled handed by a node = after_entry handed by (acts.Settle a) None node

-- where that leads: its record is asked for, and its values are put again, if there are such
abbrev pub settled_go : By → Attempt → List (List ℕ) → NodeView → Option Commit → StartGo
settled_go by a values node None = starts.Answered
settled_go by a values node (Some c) = starts.Settle (caller_for a by node) (record_of a node c) values

-- an attempt fixes its commit, unless its time would be past the last one
abbrev pub fixed : ℕ → By → ℕ → Attempt → NodeView → Commit → NodeView
fixed handed by now a node c =
    if is_time c.id.time then after_entry handed by (acts.Start a now c) None node else answered handed by replies.ClockEnd node

abbrev pub fixed_go : By → Attempt → NodeView → Commit → StartGo
fixed_go by a node c = if is_time c.id.time then starts.Store (caller_for a by node) (record_of a node c) (values_of a node) else starts.Answered

-- what a commit of an attempt does: it is settled where it is in doubt, leaves where it wrote nothing, and else fixes its commit
abbrev pub start_by : ℕ → By → ℕ → Attempt → NodeView → AttemptState → NodeView
start_by handed by now a node IsRunning = if writes_nothing a node then left handed by a node else fixed handed by now a node (commit_of now a node.history)
start_by handed by now a node state = settled handed by a node

abbrev pub start_go_by : By → ℕ → Attempt → NodeView → AttemptState → StartGo
start_go_by by now a node IsRunning = if writes_nothing a node then left_go by a node else fixed_go by a node (commit_of now a node.history)
start_go_by by now a node state = settled_go by a (values_of a node) node (fixed_commit state)

abbrev pub start_done : ℕ → By → ℕ → Option Attempt → NodeView → NodeView
start_done handed by now None node = node
start_done handed by now (Some a) node = start_by handed by now a node (doing node a)

abbrev pub start_go : By → ℕ → Option Attempt → NodeView → StartGo
start_go by now None node = starts.Answered
start_go by now (Some a) node = start_go_by by now a node (doing node a)

-- what an abort of an attempt does: it is settled where it is in doubt, and else leaves
abbrev pub leave_by : ℕ → By → Attempt → NodeView → AttemptState → NodeView
leave_by handed by a node IsRunning = left handed by a node
leave_by handed by a node state = settled handed by a node

abbrev pub leave_go_by : By → Attempt → NodeView → AttemptState → StartGo
leave_go_by by a node IsRunning = left_go by a node
leave_go_by by a node state = settled_go by a [] node (fixed_commit state)

abbrev pub leave_done : ℕ → By → Option Attempt → NodeView → NodeView
leave_done handed by None node = node
leave_done handed by (Some a) node = leave_by handed by a node (doing node a)

abbrev pub leave_go : By → Option Attempt → NodeView → StartGo
leave_go by None node = starts.Answered
leave_go by (Some a) node = leave_go_by by a node (doing node a)

-- ---- how they end

-- an attempt is left in doubt with an answer
abbrev pub doubted : ℕ → By → Attempt → Reply → NodeView → NodeView
doubted handed by a reply node = after_entry handed by (acts.Doubt a) (Some reply) node

-- the commit of an attempt that commits is stored, where it is this one; and where memory was wanting the attempt is left in doubt
abbrev pub StoresNow : ℕ → By → Attempt → Commit → Bool → NodeView → NodeView → Bool → Type 0
StoresNow handed by a c true old new result =
    ((new ≡ after_entry handed by (acts.Stored a c) None old) × (result ≡ true)) ⊎ ((new ≡ doubted handed by a replies.NoMemory old) × (result ≡ false))
StoresNow handed by a c false old new result =
    ((new ≡ answered handed by (down_reply old a.inc) old) ⊎ (new ≡ doubted handed by a replies.NoMemory old)) × (result ≡ false)

-- a reply that the end of an attempt may answer
abbrev pub is_end_reply : Reply → Bool
is_end_reply (replies.Committed id) = true
is_end_reply replies.Aborted = true
is_end_reply replies.Ended = true
is_end_reply reply = false

-- whether the end of an attempt in a state of the table may answer this
abbrev pub ends_so : Option State → Reply → Bool
ends_so (Some (states.Committing id)) (replies.Committed committed) = same_id id committed
ends_so (Some (states.Committing id)) replies.Aborted = true
ends_so (Some states.Leaving) replies.Ended = true
ends_so (Some states.Leaving) replies.Aborted = true
ends_so state reply = false

-- what is true of a client's attempt that may end: it runs, and its reads are over, or it is in doubt
abbrev pub MayEnd : Option Attempt → Ending → NodeView → Type 0
MayEnd held (endings.Running a) node = (held ≡ Some a) × IsTrue (is_doing is_running a node.history) × (open_reads a (part node.history) ≡ 0)
MayEnd held (endings.InDoubt a) node = (held ≡ Some a) × IsTrue (is_doing is_in_doubt a node.history)
