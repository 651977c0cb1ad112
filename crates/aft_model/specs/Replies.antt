-- Whether two replies are the same, and what an entry answers.
use Rattle.std.specs.Prelude.{Bool, List, None, Option, Some, false, is_none, true, ◌&&◌, ◌==◌}
use Rattle.std.specs.Cmp.Lexicographic.{pointwise}
use Rattle.std.specs.Str.{bytes_eq}
use Rattle.aft_id.specs.TxnId.{same_id}
use Rattle.aft_model.specs.declared.choice.Blocked.{Blocked}
use Rattle.aft_model.specs.declared.reply.Judged.{Judged}
use Rattle.aft_model.specs.declared.reply.Reply.{Reply}
use Rattle.aft_model.specs.declared.reply.Reply.TheVariants.{Aborted, Absent, Announced, Begun, Busy, ClockEnd, Collected, Collecting, Committed, Committing, Copied, Copying, Crashed, Damaged, Dropped, Ended, Forgot, Forgotten, InDoubt, IsBooting, IsUp, Joined, Kept, Learned, Managed, Missing, NoMemory, NoTransaction, NoValidVersion, NodeDown, NotUp, OpenReads, Orphans, Own, Started, StoreFault, Stored, TooManyKeys, TooManyRecords, TooManyVersions, Unknown, Value}
use Rattle.aft_model.specs.declared.reply.Verdict.{Verdict}
use Rattle.aft_model.specs.declared.reply.Verdict.TheVariants.{Fault, Held, Retired}

-- whether two blockers are the same
abbrev pub same_blocked : Blocked → Blocked → Bool
same_blocked a b = same_id a.id b.id && bytes_eq a.key b.key && same_id a.read b.read

-- whether two lists of blockers are the same
abbrev pub same_blockers : List Blocked → List Blocked → Bool
same_blockers = pointwise same_blocked

-- whether two verdicts are the same
abbrev pub same_verdict : Verdict → Verdict → Bool
same_verdict Retired Retired = true
same_verdict (Held node inc) (Held node' inc') = node == node' && inc == inc'
same_verdict Fault Fault = true
same_verdict a b = false

-- whether two judged commits are the same
abbrev pub same_judged : Judged → Judged → Bool
same_judged a b = same_id a.id b.id && same_verdict a.verdict b.verdict

-- whether two replies are the same
abbrev pub same_reply : Reply → Reply → Bool
same_reply (Begun uuid) (Begun uuid') = bytes_eq uuid uuid'
same_reply (Joined uuid) (Joined uuid') = bytes_eq uuid uuid'
same_reply (Committed id) (Committed id') = same_id id id'
same_reply (Busy node inc) (Busy node' inc') = node == node' && inc == inc'
same_reply Stored Stored = true
same_reply (Own value) (Own value') = bytes_eq value value'
same_reply (Value id value) (Value id' value') = same_id id id' && bytes_eq value value'
same_reply Absent Absent = true
same_reply (NoValidVersion blocked) (NoValidVersion blocked') = same_blockers blocked blocked'
same_reply (Missing id) (Missing id') = same_id id id'
same_reply (Damaged name) (Damaged name') = bytes_eq name name'
same_reply Ended Ended = true
same_reply Aborted Aborted = true
same_reply StoreFault StoreFault = true
same_reply InDoubt InDoubt = true
same_reply (NodeDown node inc) (NodeDown node' inc') = node == node' && inc == inc'
same_reply NoTransaction NoTransaction = true
same_reply Committing Committing = true
same_reply TooManyKeys TooManyKeys = true
same_reply (OpenReads count) (OpenReads count') = count == count'
same_reply ClockEnd ClockEnd = true
same_reply (Crashed node inc) (Crashed node' inc') = node == node' && inc == inc'
same_reply (NotUp node) (NotUp node') = node == node'
same_reply (Started node inc) (Started node' inc') = node == node' && inc == inc'
same_reply (IsUp node inc) (IsUp node' inc') = node == node' && inc == inc'
same_reply (IsBooting node inc) (IsBooting node' inc') = node == node' && inc == inc'
same_reply TooManyRecords TooManyRecords = true
same_reply (Announced kept pruned dropped) (Announced kept' pruned' dropped') = kept == kept' && pruned == pruned' && dropped == dropped'
same_reply (Learned taken superseded known) (Learned taken' superseded' known') = taken == taken' && superseded == superseded' && known == known'
same_reply (Dropped count) (Dropped count') = count == count'
same_reply (Managed heard missed) (Managed heard' missed') = heard == heard' && missed == missed'
same_reply (Collected judged) (Collected judged') = pointwise same_judged judged judged'
same_reply Collecting Collecting = true
same_reply (Forgot id) (Forgot id') = same_id id id'
same_reply (Kept id) (Kept id') = same_id id id'
same_reply (Unknown uuid) (Unknown uuid') = bytes_eq uuid uuid'
same_reply (Forgotten uuid) (Forgotten uuid') = bytes_eq uuid uuid'
same_reply (Orphans deleted kept held fault) (Orphans deleted' kept' held' fault') = deleted == deleted' && kept == kept' && held == held' && fault == fault'
same_reply TooManyVersions TooManyVersions = true
same_reply (Copied taken marked) (Copied taken' marked') = taken == taken' && marked == marked'
same_reply Copying Copying = true
same_reply NoMemory NoMemory = true
same_reply a b = false

-- whether an entry answers this
abbrev pub is_answer : Reply → Option Reply → Bool
is_answer reply None = false
is_answer reply (Some given) = same_reply reply given

-- whether an entry answers nothing
abbrev pub is_silent : Option Reply → Bool
is_silent given = is_none given
