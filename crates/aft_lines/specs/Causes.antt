-- Why a line answers what it does: for each reply its cause in the line as it ran, and whether the reply comes wherever its cause is.
use Rattle.std.specs.Prelude.{Bool, IsTrue, false, not, true, ◌&&◌, ◌||◌}
use Rattle.std.specs.Cmp.Lexicographic.{pointwise}
use Rattle.aft_id.specs.TxnId.{same_id}
use Rattle.aft_model.specs.declared.reply.Reply.{Reply}
use Rattle.aft_model.specs.declared.reply.Reply.TheVariants.{Aborted, Absent, Announced, Begun, Busy, ClockEnd, Collected, Collecting, Committed, Committing, Copied, Copying, Crashed, Damaged, Dropped, Ended, Forgot, Forgotten, InDoubt, IsBooting, IsUp, Joined, Kept, Learned, Managed, Missing, NoMemory, NoTransaction, NoValidVersion, NodeDown, NotUp, OpenReads, Orphans, Own, Started, StoreFault, Stored, TooManyKeys, TooManyRecords, TooManyVersions, Unknown, Value}
use Rattle.aft_model.specs.declared.reply.Verdict.{Verdict}
use Rattle.aft_model.specs.declared.reply.Verdict.TheVariants.{Held}
use Rattle.aft_model.specs.Membership.{incarnation}
use Rattle.aft_model.specs.Replies.{same_reply, same_verdict}
use Rattle.aft_lines.specs.CausesAttempts.{is_clock_end_caused, is_committing_caused, is_no_transaction_caused, is_ok_caused, is_open_reads_caused, is_too_many_keys_caused}
use Rattle.aft_lines.specs.CausesBegins.{is_begun_caused, is_busy_caused, is_forgot_caused, is_forgotten_caused, is_joined_caused, is_kept_caused, is_unknown_caused}
use Rattle.aft_lines.specs.CausesCommits.{is_aborted_caused, is_committed_caused, is_ended_caused, is_in_doubt_caused}
use Rattle.aft_lines.specs.CausesNodes.{is_booting_caused, is_crashed_caused, is_node_down_caused, is_not_up_caused, is_started_caused, is_up_caused}
use Rattle.aft_lines.specs.CausesReads.{is_absent_caused, is_missing_caused, is_no_valid_version_caused, is_own_caused, is_value_caused}
use Rattle.aft_lines.specs.CausesRounds.{is_announced_caused, is_collecting_caused, is_copied_caused, is_copying_caused, is_dropped_caused, is_learned_caused, is_managed_caused, is_orphans_caused}
use Rattle.aft_lines.specs.CausesScans.{is_damaged_caused, is_store_fault_caused, is_too_many_records_caused, is_too_many_versions_caused}
use Rattle.aft_lines.specs.CausesVerdicts.{is_collected_caused}
use Rattle.aft_lines.specs.LineView.{LineView}

-- whether a line has the cause of a reply; want of memory needs none
abbrev pub cause : LineView → Reply → Bool
cause view (Begun uuid) = is_begun_caused uuid view
cause view (Joined uuid) = is_joined_caused uuid view
cause view (Committed id) = is_committed_caused id view
cause view (Busy node inc) = is_busy_caused (incarnation node inc) view
cause view Stored = is_ok_caused view
cause view (Own value) = is_own_caused value view
cause view (Value id value) = is_value_caused id value view
cause view Absent = is_absent_caused view
cause view (NoValidVersion blocked) = is_no_valid_version_caused blocked view
cause view (Missing id) = is_missing_caused id view
cause view (Damaged name) = is_damaged_caused name view
cause view Ended = is_ended_caused view
cause view Aborted = is_aborted_caused view
cause view StoreFault = is_store_fault_caused view
cause view InDoubt = is_in_doubt_caused view
cause view (NodeDown node inc) = is_node_down_caused (incarnation node inc) view
cause view NoTransaction = is_no_transaction_caused view
cause view Committing = is_committing_caused view
cause view TooManyKeys = is_too_many_keys_caused view
cause view (OpenReads count) = is_open_reads_caused count view
cause view ClockEnd = is_clock_end_caused view
cause view (Crashed node inc) = is_crashed_caused (incarnation node inc) view
cause view (NotUp node) = is_not_up_caused node view
cause view (Started node inc) = is_started_caused (incarnation node inc) view
cause view (IsUp node inc) = is_up_caused (incarnation node inc) view
cause view (IsBooting node inc) = is_booting_caused (incarnation node inc) view
cause view TooManyRecords = is_too_many_records_caused view
cause view (Announced kept pruned dropped) = is_announced_caused kept pruned dropped view
cause view (Learned taken superseded already) = is_learned_caused taken superseded already view
cause view (Dropped count) = is_dropped_caused count view
cause view (Managed heard missed) = is_managed_caused heard missed view
cause view (Collected judged) = is_collected_caused judged view
cause view Collecting = is_collecting_caused view
cause view (Forgot id) = is_forgot_caused id view
cause view (Kept id) = is_kept_caused id view
cause view (Unknown uuid) = is_unknown_caused uuid view
cause view (Forgotten uuid) = is_forgotten_caused uuid view
cause view (Orphans deleted kept held fault) = is_orphans_caused deleted kept held fault view
cause view TooManyVersions = is_too_many_versions_caused view
cause view (Copied taken marked) = is_copied_caused taken marked view
cause view Copying = is_copying_caused view
cause view NoMemory = true

-- a line that has the cause of a reply
abbrev pub Caused : LineView → Reply → Type 0
Caused view reply = IsTrue (cause view reply)

-- ---- where a reply comes exactly where its cause is

-- whether a reply comes exactly where its cause is, unless another that it yields to does. A store fault, a UUID that is held or forgotten, a node that is down, and want of memory come only where theirs is
abbrev pub comes_exactly : Reply → Bool
comes_exactly StoreFault = false
comes_exactly (Busy node inc) = false
comes_exactly (Forgotten uuid) = false
comes_exactly (NodeDown node inc) = false
comes_exactly NoMemory = false
comes_exactly reply = true

-- whether each other reply yields to this one: that the node is down, and that memory is wanting
abbrev pub yields_to : Reply → Bool
yields_to (NodeDown node inc) = true
yields_to NoMemory = true
yields_to reply = false

-- whether two verdicts are the same but for who holds
abbrev pub same_but_holder : Verdict → Verdict → Bool
same_but_holder (Held node inc) (Held node' inc') = true
same_but_holder a b = same_verdict a b

-- whether two replies are the same, and of a collection's verdicts but for who holds: several may
abbrev pub same_but_holders : Reply → Reply → Bool
same_but_holders (Collected judged) (Collected judged') = pointwise (λ a b. same_id a.id b.id && same_but_holder a.verdict b.verdict) judged judged'
same_but_holders a b = same_reply a b

-- whether a line's reply leaves this other one out rightly: the other doesn't come exactly where its cause is, or the line lacks its cause, or it is the reply, or it yields to the reply
abbrev pub may_leave_out : LineView → Reply → Reply → Bool
may_leave_out view reply other = not (comes_exactly other && cause view other) || same_but_holders reply other || yields_to reply

-- a reply that leaves out no other: each that comes exactly where its cause is, and whose cause the line has, is this one, or yields to it
abbrev pub ExactlyCaused : LineView → Reply → Type 0
ExactlyCaused view reply = (other : Reply) → IsTrue (may_leave_out view reply other)
