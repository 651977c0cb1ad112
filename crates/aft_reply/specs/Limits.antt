-- The limits of replies: numbers have the width of their type, keys, UUIDs and values are bytes, an id is the zero id or
-- has a time of 1 to 2^48 - 1, and a damaged name has one byte or more, each 33 to 126.
use Rattle.std.specs.Prelude.{All, IsTrue, List, length, ℕ, ◌<◌, ◌^◌, ◌≡◌, ◌≤◌, ◌⊎◌}
use Rattle.std.specs.List.{list_all}
use Rattle.aft_id.specs.declared.txn_id.TxnId.{TxnId}
use Rattle.aft_id.specs.TxnId.{IsUuid, zero_id}
use Rattle.aft_records.specs.Limits.{IsKey, is_key_byte}
use Rattle.aft_model.specs.declared.choice.Blocked.{Blocked}
use Rattle.aft_model.specs.declared.reply.Judged.{Judged}
use Rattle.aft_model.specs.declared.reply.Reply.{Reply}
use Rattle.aft_model.specs.declared.reply.Reply.TheVariants.{Announced, Begun, Busy, Collected, Committed, Copied, Crashed, Damaged, Dropped, Forgot, Forgotten, IsBooting, IsUp, Joined, Kept, Learned, Managed, Missing, NoValidVersion, NodeDown, NotUp, OpenReads, Orphans, Own, Started, Unknown, Value}
use Rattle.aft_model.specs.declared.reply.Verdict.{Verdict}
use Rattle.aft_model.specs.declared.reply.Verdict.TheVariants.{Held}

-- an id of a reply: the zero id, or one with a time of 1 to 2^48 - 1
abbrev pub IsReplyId : TxnId → Type 0
IsReplyId id = IsUuid id.uuid × (id.time < 2 ^ 48) × ((id ≡ zero_id) ⊎ (1 ≤ id.time))

-- a value
abbrev pub IsValue : List ℕ → Type 0
IsValue value = All (λ b. b < 256) value

-- the name of something damaged
abbrev pub IsName : List ℕ → Type 0
IsName name = (0 < length name) × IsTrue (list_all is_key_byte name)

-- a blocker
abbrev pub IsBlocker : Blocked → Type 0
IsBlocker blocked = IsReplyId blocked.id × IsKey blocked.key × IsReplyId blocked.read

-- a verdict
abbrev pub IsVerdict : Verdict → Type 0
IsVerdict (Held node inc) = (node < 2 ^ 32) × (inc < 2 ^ 32)
IsVerdict verdict = Unit {0}

-- a judged commit
abbrev pub IsJudged : Judged → Type 0
IsJudged judged = IsReplyId judged.id × IsVerdict judged.verdict

-- a reply
abbrev pub IsReply : Reply → Type 0
IsReply (Begun uuid) = IsUuid uuid
IsReply (Joined uuid) = IsUuid uuid
IsReply (Committed id) = IsReplyId id
IsReply (Busy node inc) = (node < 2 ^ 32) × (inc < 2 ^ 32)
IsReply (Own value) = IsValue value
IsReply (Value id value) = IsReplyId id × IsValue value
IsReply (NoValidVersion blocked) = All IsBlocker blocked
IsReply (Missing id) = IsReplyId id
IsReply (Damaged name) = IsName name
IsReply (NodeDown node inc) = (node < 2 ^ 32) × (inc < 2 ^ 32)
IsReply (OpenReads count) = count < 2 ^ 64
IsReply (Crashed node inc) = (node < 2 ^ 32) × (inc < 2 ^ 32)
IsReply (NotUp node) = node < 2 ^ 32
IsReply (Started node inc) = (node < 2 ^ 32) × (inc < 2 ^ 32)
IsReply (IsUp node inc) = (node < 2 ^ 32) × (inc < 2 ^ 32)
IsReply (IsBooting node inc) = (node < 2 ^ 32) × (inc < 2 ^ 32)
IsReply (Announced kept pruned dropped) = (kept < 2 ^ 64) × (pruned < 2 ^ 64) × (dropped < 2 ^ 64)
IsReply (Learned taken superseded known) = (taken < 2 ^ 64) × (superseded < 2 ^ 64) × (known < 2 ^ 64)
IsReply (Dropped count) = count < 2 ^ 64
IsReply (Managed heard missed) = (heard < 2 ^ 64) × (missed < 2 ^ 64)
IsReply (Collected judged) = All IsJudged judged
IsReply (Forgot id) = IsReplyId id
IsReply (Kept id) = IsReplyId id
IsReply (Unknown uuid) = IsUuid uuid
IsReply (Forgotten uuid) = IsUuid uuid
IsReply (Orphans deleted kept held fault) = (deleted < 2 ^ 64) × (kept < 2 ^ 64) × (held < 2 ^ 64) × (fault < 2 ^ 64)
IsReply (Copied taken marked) = (taken < 2 ^ 64) × (marked < 2 ^ 64)
IsReply reply = Unit {0}
