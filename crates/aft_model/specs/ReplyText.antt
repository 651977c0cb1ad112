-- The text of a reply: its words, with one space between them.
use Rattle.std.specs.Prelude.{Bool, List, [], codes, if◌then◌else◌, length, nat_eq, not, ℕ, ◌&&◌, ◌++◌, ◌==◌, ◌∷◌}
use Rattle.std.specs.Fmt.{decimal}
use Rattle.std.specs.List.{flat_map, join_with_byte, list_all, starts_with}
use Rattle.hex.specs.Hex.{encode_lower}
use Rattle.uuid.specs.Text.{hyphenated_text, lower}
use Rattle.aft_id.specs.declared.txn_id.TxnId.{TxnId}
use Rattle.aft_id.specs.TxnId.{id_text, same_id, zero_id}
use Rattle.aft_records.specs.Limits.{is_key_byte}
use Rattle.aft_model.specs.declared.choice.Blocked.{Blocked}
use Rattle.aft_model.specs.declared.reply.Judged.{Judged}
use Rattle.aft_model.specs.declared.reply.Reply.{Reply}
use Rattle.aft_model.specs.declared.reply.Reply.TheVariants.{Aborted, Absent, Announced, Begun, Busy, ClockEnd, Collected, Collecting, Committed, Committing, Copied, Copying, Crashed, Damaged, Dropped, Ended, Forgot, Forgotten, InDoubt, IsBooting, IsUp, Joined, Kept, Learned, Managed, Missing, NoMemory, NoTransaction, NoValidVersion, NodeDown, NotUp, OpenReads, Orphans, Own, Started, StoreFault, Stored, TooManyKeys, TooManyRecords, TooManyVersions, Unknown, Value}
use Rattle.aft_model.specs.declared.reply.Verdict.{Verdict}
use Rattle.aft_model.specs.declared.reply.Verdict.TheVariants.{Fault, Held, Retired}

-- words with one space between each two
abbrev pub spaced : List (List ℕ) → List ℕ
spaced words = join_with_byte 32 words

-- a UUID as a word: hyphenated, in lower case
abbrev pub uuid_word : List ℕ → List ℕ
uuid_word uuid = hyphenated_text lower uuid

-- an id as a word: its text, and `0` for the id at which an absent key is read
abbrev pub id_word : TxnId → List ℕ
id_word id = if same_id id zero_id then codes "0" else id_text id

-- whether a value can be a word as it is: it isn't empty, its bytes are all 33 to 126, and it doesn't begin with `#`
abbrev pub is_plain : List ℕ → Bool
is_plain value = not (length value == 0) && list_all is_key_byte value && not (starts_with nat_eq value (codes "#"))

-- a value as a word: as it is, or else `#` and its digits in lower-case hexadecimal
abbrev pub value_word : List ℕ → List ℕ
value_word value = if is_plain value then value else codes "#" ++ encode_lower value

-- the three words of a blocker: its id, the key, and the id at which the key was read
abbrev pub blocker_words : Blocked → List (List ℕ)
blocker_words blocked = id_word blocked.id ∷ blocked.key ∷ id_word blocked.read ∷ []

-- the words of a verdict
abbrev pub verdict_words : Verdict → List (List ℕ)
verdict_words Retired = codes "retired" ∷ []
verdict_words (Held node inc) = codes "held" ∷ decimal node ∷ decimal inc ∷ []
verdict_words Fault = codes "fault" ∷ []

-- the words of a judged commit: its id, and its verdict
abbrev pub judged_words : Judged → List (List ℕ)
judged_words judged = id_word judged.id ∷ verdict_words judged.verdict

-- the words of a reply
abbrev pub reply_words : Reply → List (List ℕ)
reply_words (Begun uuid) = codes "begun" ∷ uuid_word uuid ∷ []
reply_words (Joined uuid) = codes "joined" ∷ uuid_word uuid ∷ []
reply_words (Committed id) = codes "committed" ∷ id_word id ∷ []
reply_words (Busy node inc) = codes "busy" ∷ decimal node ∷ decimal inc ∷ []
reply_words Stored = codes "ok" ∷ []
reply_words (Own value) = codes "own" ∷ value_word value ∷ []
reply_words (Value id value) = codes "value" ∷ id_word id ∷ value_word value ∷ []
reply_words Absent = codes "absent" ∷ []
reply_words (NoValidVersion blocked) = codes "no-valid-version" ∷ flat_map blocker_words blocked
reply_words (Missing id) = codes "missing" ∷ id_word id ∷ []
reply_words (Damaged name) = codes "damaged" ∷ name ∷ []
reply_words Ended = codes "ended" ∷ []
reply_words Aborted = codes "aborted" ∷ []
reply_words StoreFault = codes "store-fault" ∷ []
reply_words InDoubt = codes "in-doubt" ∷ []
reply_words (NodeDown node inc) = codes "node-down" ∷ decimal node ∷ decimal inc ∷ []
reply_words NoTransaction = codes "no-transaction" ∷ []
reply_words Committing = codes "committing" ∷ []
reply_words TooManyKeys = codes "too-many-keys" ∷ []
reply_words (OpenReads count) = codes "open-reads" ∷ decimal count ∷ []
reply_words ClockEnd = codes "clock-end" ∷ []
reply_words (Crashed node inc) = codes "crashed" ∷ decimal node ∷ decimal inc ∷ []
reply_words (NotUp node) = codes "not-up" ∷ decimal node ∷ []
reply_words (Started node inc) = codes "started" ∷ decimal node ∷ decimal inc ∷ []
reply_words (IsUp node inc) = codes "up" ∷ decimal node ∷ decimal inc ∷ []
reply_words (IsBooting node inc) = codes "booting" ∷ decimal node ∷ decimal inc ∷ []
reply_words TooManyRecords = codes "too-many-records" ∷ []
reply_words (Announced kept pruned dropped) = codes "announced" ∷ decimal kept ∷ codes "pruned" ∷ decimal pruned ∷ codes "dropped" ∷ decimal dropped ∷ []
reply_words (Learned taken superseded known) = codes "learned" ∷ decimal taken ∷ codes "superseded" ∷ decimal superseded ∷ codes "known" ∷ decimal known ∷ []
reply_words (Dropped count) = codes "dropped" ∷ decimal count ∷ []
reply_words (Managed heard missed) = codes "manager" ∷ codes "heard" ∷ decimal heard ∷ codes "missed" ∷ decimal missed ∷ []
reply_words (Collected judged) = codes "collected" ∷ flat_map judged_words judged
reply_words Collecting = codes "collecting" ∷ []
reply_words (Forgot id) = codes "forgot" ∷ id_word id ∷ []
reply_words (Kept id) = codes "kept" ∷ id_word id ∷ []
reply_words (Unknown uuid) = codes "unknown" ∷ uuid_word uuid ∷ []
reply_words (Forgotten uuid) = codes "forgotten" ∷ uuid_word uuid ∷ []
reply_words (Orphans deleted kept held fault) = codes "orphans" ∷ codes "deleted" ∷ decimal deleted ∷ codes "kept" ∷ decimal kept ∷ codes "held" ∷ decimal held ∷ codes "fault" ∷ decimal fault ∷ []
reply_words TooManyVersions = codes "too-many-versions" ∷ []
reply_words (Copied taken marked) = codes "copied" ∷ decimal taken ∷ codes "marked" ∷ decimal marked ∷ []
reply_words Copying = codes "copying" ∷ []
reply_words NoMemory = codes "no-memory" ∷ []

-- the text of a reply
abbrev pub reply_text : Reply → List ℕ
reply_text reply = spaced (reply_words reply)
