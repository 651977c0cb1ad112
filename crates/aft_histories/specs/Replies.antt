-- A reply of every kind.
use Rattle.std.specs.Prelude.{ℕ, List, [], ◌∷◌, codes}
use Rattle.aft_id.specs.TxnId.{zero_id}
use Rattle.aft_id.specs.declared.txn_id.TxnId.{TxnId}
use Rattle.aft_model.specs.declared.caller.By.{By}
use Rattle.aft_model.specs.declared.choice.Blocked.{Blocked}
use Rattle.aft_model.specs.declared.reply.Judged.{Judged}
use Rattle.aft_model.specs.declared.reply.Verdict.{Verdict}
use Rattle.aft_model.specs.declared.reply.Verdict.TheVariants.{Retired, Held, Fault}
use Rattle.aft_model.specs.declared.reply.Reply.{Reply}
use Rattle.aft_model.specs.declared.reply.Reply.TheVariants.{Begun, Joined, Committed, Busy, Stored, Own, Value, Absent, NoValidVersion, Missing, Damaged, Ended, Aborted, StoreFault, InDoubt, NodeDown, NoTransaction, Committing, TooManyKeys, OpenReads, ClockEnd, Crashed, NotUp, Started, IsUp, IsBooting, TooManyRecords, Announced, Learned, Dropped, Managed, Collected, Collecting, Forgot, Kept, Unknown, Forgotten, Orphans, TooManyVersions, Copied, Copying, NoMemory}
use Rattle.aft_histories.specs.Entries.{x, y, u, first, second, record_of}

-- a blocker, and a judged commit
abbrev pub blocker : TxnId → List ℕ → TxnId → Blocked
blocker id key read = record { id = id; key = key; read = read }

abbrev pub judged : TxnId → Verdict → Judged
judged id verdict = record { id = id; verdict = verdict }

-- a reply of every kind
abbrev pub one_of_each : List Reply
one_of_each =
    Begun (u 1) ∷ Joined (u 1) ∷ Committed first.id ∷ Busy 1 2 ∷ Stored ∷ Own (codes "hi") ∷ Value first.id (codes "hi") ∷ Absent
    ∷ NoValidVersion (blocker first.id x zero_id ∷ []) ∷ Missing first.id ∷ Damaged (record_of 1) ∷ Ended ∷ Aborted ∷ StoreFault ∷ InDoubt ∷ NodeDown 1 2
    ∷ NoTransaction ∷ Committing ∷ TooManyKeys ∷ OpenReads 1 ∷ ClockEnd ∷ Crashed 1 2 ∷ NotUp 1 ∷ Started 1 2 ∷ IsUp 1 2 ∷ IsBooting 1 2
    ∷ TooManyRecords ∷ Announced 1 2 3 ∷ Learned 1 2 3 ∷ Dropped 1 ∷ Managed 1 2 ∷ Collected (judged first.id Retired ∷ []) ∷ Collecting ∷ Forgot first.id ∷ Kept first.id ∷ Unknown (u 1) ∷ Forgotten (u 1)
    ∷ Orphans 1 2 3 4 ∷ TooManyVersions ∷ Copied 1 2 ∷ Copying ∷ NoMemory ∷ []

-- and more of the same kinds, which say something else
abbrev pub others_of_some : List Reply
others_of_some =
    Begun (u 3) ∷ Committed second.id ∷ Busy 1 1 ∷ Own [] ∷ Value first.id [] ∷ Value second.id (codes "hi") ∷ NoValidVersion []
    ∷ NoValidVersion (blocker first.id y zero_id ∷ []) ∷ NoValidVersion (blocker first.id x first.id ∷ []) ∷ Announced 1 2 4 ∷ Learned 0 2 3 ∷ Managed 2 2
    ∷ Collected (judged first.id Fault ∷ []) ∷ Collected (judged first.id (Held 1 2) ∷ []) ∷ Collected (judged first.id (Held 1 1) ∷ []) ∷ Kept second.id
    ∷ Unknown (u 3) ∷ Orphans 1 2 3 0 ∷ Copied 1 1 ∷ []

-- a line of a client
abbrev pub line_by : ℕ → ℕ → By
line_by client line = record { client = client; line = line }
