-- What a text is read as: its words, the first of which says which reply it is.
use Rattle.std.specs.Borrow.{Bor}
use Rattle.std.specs.Prelude.{Bool, Err, List, None, Ok, Option, Result, Some, [], codes, drop, if◌then◌else◌, length, nat_eq, nat_lt, not, ok_or, suc, zero, ℕ, ◌&&◌, ◌++◌, ◌==◌, ◌^◌, ◌∷◌}
use Rattle.std.specs.List.{after_first, before_first, list_all, slice_split, starts_with}
use Rattle.std.specs.Option.{option_map_or, unwrap_or}
use Rattle.std.specs.Str.{all_ascii_digits, bytes_eq}
use Rattle.std.specs.Str.Parse.{digits_value, without_leading_plus}
use Rattle.hex.specs.Hex.{decode_of}
use Rattle.hex.specs.declared.error.FromHexError.{FromHexError}
use Rattle.uuid.specs.Text.{parsed}
use Rattle.aft_id.specs.declared.txn_id.TxnId.{TxnId}
use Rattle.aft_id.specs.TxnId.{id_text, zero_id}
use Rattle.aft_records.specs.Limits.{is_key, is_key_byte}
use Rattle.aft_model.specs.Bytes.{is_uuid}
use Rattle.aft_model.specs.declared.choice.Blocked.{Blocked}
use Rattle.aft_model.specs.declared.reply.Judged.{Judged}
use Rattle.aft_model.specs.declared.reply.Reply.{Reply}
use Rattle.aft_model.specs.declared.reply.Reply.TheVariants as reply
use Rattle.aft_model.specs.declared.reply.Verdict.{Verdict}
use Rattle.aft_model.specs.declared.reply.Verdict.TheVariants.{Fault, Held, Retired}
use Rattle.aft_reply.specs.Gives.{◌>>=◌}
use Rattle.aft_reply.specs.declared.fault.ReplyFault.{ReplyFault}
use Rattle.aft_reply.specs.declared.fault.ReplyFault.TheVariants.{BadReply}
use Rattle.aft_reply.specs.declared.head.Head.{Head}
use Rattle.aft_reply.specs.declared.head.Head.TheVariants.{Aborted, Absent, Announced, Begun, Busy, ClockEnd, Collected, Collecting, Committed, Committing, Copied, Copying, Crashed, Damaged, Dropped, Ended, Forgot, Forgotten, InDoubt, IsBooting, IsUp, Joined, Kept, Learned, Managed, Missing, NoMemory, NoTransaction, NoValidVersion, NodeDown, NotUp, OpenReads, Orphans, Own, Started, StoreFault, Stored, TooManyKeys, TooManyRecords, TooManyVersions, Unknown, Value}

-- whether a byte stands between words
abbrev pub is_space : ℕ → Bool
is_space b = b == 32

-- the words of a text: what stands between its spaces
abbrev pub words_of : List ℕ → List (List ℕ)
words_of text = slice_split is_space text

-- the words of what is left of a text, if anything is
abbrev pub words_left : Option (Bor (List ℕ)) → List (List ℕ)
words_left None = []
words_left (Some text) = words_of text.now

-- the reply that a first word stands for
abbrev pub head_of : List ℕ → Option Head
head_of word =
    if bytes_eq word (codes "begun") then Some Begun else
    (if bytes_eq word (codes "joined") then Some Joined else
    (if bytes_eq word (codes "committed") then Some Committed else
    (if bytes_eq word (codes "busy") then Some Busy else
    (if bytes_eq word (codes "ok") then Some Stored else
    (if bytes_eq word (codes "own") then Some Own else
    (if bytes_eq word (codes "value") then Some Value else
    (if bytes_eq word (codes "absent") then Some Absent else
    (if bytes_eq word (codes "no-valid-version") then Some NoValidVersion else
    (if bytes_eq word (codes "missing") then Some Missing else
    (if bytes_eq word (codes "damaged") then Some Damaged else
    (if bytes_eq word (codes "ended") then Some Ended else
    (if bytes_eq word (codes "aborted") then Some Aborted else
    (if bytes_eq word (codes "store-fault") then Some StoreFault else
    (if bytes_eq word (codes "in-doubt") then Some InDoubt else
    (if bytes_eq word (codes "node-down") then Some NodeDown else
    (if bytes_eq word (codes "no-transaction") then Some NoTransaction else
    (if bytes_eq word (codes "committing") then Some Committing else
    (if bytes_eq word (codes "too-many-keys") then Some TooManyKeys else
    (if bytes_eq word (codes "open-reads") then Some OpenReads else
    (if bytes_eq word (codes "clock-end") then Some ClockEnd else
    (if bytes_eq word (codes "crashed") then Some Crashed else
    (if bytes_eq word (codes "not-up") then Some NotUp else
    (if bytes_eq word (codes "started") then Some Started else
    (if bytes_eq word (codes "up") then Some IsUp else
    (if bytes_eq word (codes "booting") then Some IsBooting else
    (if bytes_eq word (codes "too-many-records") then Some TooManyRecords else
    (if bytes_eq word (codes "announced") then Some Announced else
    (if bytes_eq word (codes "learned") then Some Learned else
    (if bytes_eq word (codes "dropped") then Some Dropped else
    (if bytes_eq word (codes "manager") then Some Managed else
    (if bytes_eq word (codes "collected") then Some Collected else
    (if bytes_eq word (codes "collecting") then Some Collecting else
    (if bytes_eq word (codes "forgot") then Some Forgot else
    (if bytes_eq word (codes "kept") then Some Kept else
    (if bytes_eq word (codes "unknown") then Some Unknown else
    (if bytes_eq word (codes "forgotten") then Some Forgotten else
    (if bytes_eq word (codes "orphans") then Some Orphans else
    (if bytes_eq word (codes "too-many-versions") then Some TooManyVersions else
    (if bytes_eq word (codes "copied") then Some Copied else
    (if bytes_eq word (codes "copying") then Some Copying else
    (if bytes_eq word (codes "no-memory") then Some NoMemory else None)))))))))))))))))))))))))))))))))))))))))

-- a word, and the words behind it
abbrev pub take_word : List (List ℕ) → Result (List ℕ × List (List ℕ)) ReplyFault
take_word [] = Err BadReply
take_word (word ∷ rest) = Ok (word, rest)

-- one word alone
abbrev pub one_word : List (List ℕ) → Result (List ℕ) ReplyFault
one_word [] = Err BadReply
one_word (word ∷ []) = Ok word
one_word (word ∷ next ∷ rest) = Err BadReply

-- two words alone
abbrev pub two_words : List (List ℕ) → Result (List ℕ × List ℕ) ReplyFault
two_words [] = Err BadReply
two_words (first ∷ []) = Err BadReply
two_words (first ∷ second ∷ []) = Ok (first, second)
two_words (first ∷ second ∷ next ∷ rest) = Err BadReply

-- a reply with no words behind it
abbrev pub nothing : Reply → List (List ℕ) → Result Reply ReplyFault
nothing reply [] = Ok reply
nothing reply (word ∷ rest) = Err BadReply

-- a UUID, in any of its forms
abbrev pub uuid_of : List ℕ → Result (List ℕ) ReplyFault
uuid_of word = ok_or (parsed word) BadReply

-- the id that a word seems to be: digits before the first `-`, and a UUID behind it
abbrev pub seeming_id : List ℕ → TxnId
seeming_id word = record { time = digits_value 10 (before_first (λ b. b == 45) word); uuid = unwrap_or (parsed (after_first (λ b. b == 45) word)) [] }

-- an id with a time below 2^48, if a word is its text
abbrev pub if_spelled : List ℕ → TxnId → Option TxnId
if_spelled word id = if bytes_eq (id_text id) word && nat_lt id.time (2 ^ 48) && is_uuid id.uuid then Some id else None

-- the id whose text a word is
abbrev pub id_written : List ℕ → Option TxnId
id_written word = if_spelled word (seeming_id word)

-- an id that was written, if its time isn't 0
abbrev pub if_timed : Option TxnId → Result TxnId ReplyFault
if_timed (Some id) = if nat_lt 0 id.time then Ok id else Err BadReply
if_timed None = Err BadReply

-- an id: `0` for the zero id alone, and else the text of an id with a time of 1 or more
abbrev pub id_of : List ℕ → Result TxnId ReplyFault
id_of word = if bytes_eq word (codes "0") then Ok zero_id else if_timed (id_written word)

-- a number below 2^64
abbrev pub count_of : List ℕ → Result ℕ ReplyFault
count_of word = let digits = without_leading_plus word in if not (length digits == 0) && all_ascii_digits digits && nat_lt (digits_value 10 digits) (2 ^ 64) then Ok (digits_value 10 digits) else Err BadReply

-- a number below 2^32
abbrev pub below_32 : ℕ → Result ℕ ReplyFault
below_32 number = if nat_lt number (2 ^ 32) then Ok number else Err BadReply

-- a node or an incarnation
abbrev pub node_of : List ℕ → Result ℕ ReplyFault
node_of word = count_of word >>= below_32

-- a key
abbrev pub key_of : List ℕ → Result (List ℕ) ReplyFault
key_of word = if is_key word then Ok word else Err BadReply

-- the name of something damaged: bytes of 33 to 126, at least one
abbrev pub name_of : List ℕ → Result (List ℕ) ReplyFault
name_of word = if not (length word == 0) && list_all is_key_byte word then Ok word else Err BadReply

-- bytes, if they were digits of bytes
abbrev pub of_digits : Result (List ℕ) FromHexError → Result (List ℕ) ReplyFault
of_digits (Ok bytes) = Ok bytes
of_digits (Err e) = Err BadReply

-- a value: behind a leading `#` the bytes of its hexadecimal digits, and else its own
abbrev pub value_of : List ℕ → Result (List ℕ) ReplyFault
value_of word = if starts_with nat_eq word (codes "#") then of_digits (decode_of (drop 1 word)) else Ok word

-- a node and an incarnation alone
abbrev pub node_and_inc : List (List ℕ) → Result (ℕ × ℕ) ReplyFault
node_and_inc words = do
  two ← two_words words
  node ← node_of two.0
  inc ← node_of two.1
  Ok (node, inc)

-- an id and a value alone
abbrev pub id_and_value : List (List ℕ) → Result Reply ReplyFault
id_and_value words = do
  two ← two_words words
  id ← id_of two.0
  value ← value_of two.1
  Ok (reply.Value id value)

-- a number, and the words behind it
abbrev pub take_count : List (List ℕ) → Result (ℕ × List (List ℕ)) ReplyFault
take_count [] = Err BadReply
take_count (word ∷ rest) = count_of word >>= λ count. Ok (count, rest)

-- a number behind its name, and the words behind it
abbrev pub take_named : List ℕ → List (List ℕ) → Result (ℕ × List (List ℕ)) ReplyFault
take_named name [] = Err BadReply
take_named name (word ∷ rest) = if bytes_eq word name then take_count rest else Err BadReply

-- the counts of replies
abbrev pub announced : List (List ℕ) → Result Reply ReplyFault
announced words = do
  kept ← take_count words
  pruned ← take_named (codes "pruned") kept.1
  dropped ← take_named (codes "dropped") pruned.1
  nothing (reply.Announced kept.0 pruned.0 dropped.0) dropped.1

abbrev pub learned : List (List ℕ) → Result Reply ReplyFault
learned words = do
  taken ← take_count words
  superseded ← take_named (codes "superseded") taken.1
  known ← take_named (codes "known") superseded.1
  nothing (reply.Learned taken.0 superseded.0 known.0) known.1

abbrev pub managed : List (List ℕ) → Result Reply ReplyFault
managed words = do
  heard ← take_named (codes "heard") words
  missed ← take_named (codes "missed") heard.1
  nothing (reply.Managed heard.0 missed.0) missed.1

abbrev pub orphans : List (List ℕ) → Result Reply ReplyFault
orphans words = do
  deleted ← take_named (codes "deleted") words
  kept ← take_named (codes "kept") deleted.1
  held ← take_named (codes "held") kept.1
  fault ← take_named (codes "fault") held.1
  nothing (reply.Orphans deleted.0 kept.0 held.0 fault.0) fault.1

abbrev pub copied : List (List ℕ) → Result Reply ReplyFault
copied words = do
  taken ← take_count words
  marked ← take_named (codes "marked") taken.1
  nothing (reply.Copied taken.0 marked.0) marked.1

-- a blocker of its three words
abbrev pub blocker_of : List ℕ → List ℕ → List ℕ → Result Blocked ReplyFault
blocker_of id key read = do
  i ← id_of id
  k ← key_of key
  r ← id_of read
  Ok (record { id = i; key = k; read = r })

-- a blocker, and the words behind it
abbrev pub take_blocker : List (List ℕ) → Result (Blocked × List (List ℕ)) ReplyFault
take_blocker words = do
  id ← take_word words
  key ← take_word id.1
  read ← take_word key.1
  blocker ← blocker_of id.0 key.0 read.0
  Ok (blocker, read.1)

-- who holds a commit, and the words behind it
abbrev pub take_holder : List (List ℕ) → Result (Verdict × List (List ℕ)) ReplyFault
take_holder words = do
  node ← take_word words
  inc ← take_word node.1
  n ← node_of node.0
  i ← node_of inc.0
  Ok (Held n i, inc.1)

-- the verdict that a word begins, and the words behind it
abbrev pub verdict_behind : List ℕ → List (List ℕ) → Result (Verdict × List (List ℕ)) ReplyFault
verdict_behind kind words =
    if bytes_eq kind (codes "retired") then Ok (Retired, words) else
    (if bytes_eq kind (codes "held") then take_holder words else
    (if bytes_eq kind (codes "fault") then Ok (Fault, words) else Err BadReply))

-- a judged commit, and the words behind it
abbrev pub take_judged : List (List ℕ) → Result (Judged × List (List ℕ)) ReplyFault
take_judged words = do
  id ← take_word words
  kind ← take_word id.1
  i ← id_of id.0
  verdict ← verdict_behind kind.0 kind.1
  Ok (record { id = i; verdict = verdict.0 }, verdict.1)

-- all of a kind that stand one behind the other, at most so many, behind those that were taken before
abbrev pub many : {A : Type 0} → (List (List ℕ) → Result (A × List (List ℕ)) ReplyFault) → ℕ → List A → List (List ℕ) → Result (List A) ReplyFault
many take n before [] = Ok before
many take zero before (word ∷ words) = Err BadReply
many take (suc n) before (word ∷ words) = take (word ∷ words) >>= λ it. many take n (before ++ it.0 ∷ []) it.1

-- a reply that is its first word alone
abbrev pub alone : Head → Option Reply
alone Stored = Some reply.Stored
alone Absent = Some reply.Absent
alone Ended = Some reply.Ended
alone Aborted = Some reply.Aborted
alone StoreFault = Some reply.StoreFault
alone InDoubt = Some reply.InDoubt
alone NoTransaction = Some reply.NoTransaction
alone Committing = Some reply.Committing
alone TooManyKeys = Some reply.TooManyKeys
alone ClockEnd = Some reply.ClockEnd
alone TooManyRecords = Some reply.TooManyRecords
alone Collecting = Some reply.Collecting
alone TooManyVersions = Some reply.TooManyVersions
alone Copying = Some reply.Copying
alone NoMemory = Some reply.NoMemory
alone head = None

-- a reply of its first word and one more
abbrev pub with_word : Head → List ℕ → Result Reply ReplyFault
with_word Begun word = uuid_of word >>= λ uuid. Ok (reply.Begun uuid)
with_word Joined word = uuid_of word >>= λ uuid. Ok (reply.Joined uuid)
with_word Committed word = id_of word >>= λ id. Ok (reply.Committed id)
with_word Own word = value_of word >>= λ value. Ok (reply.Own value)
with_word Missing word = id_of word >>= λ id. Ok (reply.Missing id)
with_word Damaged word = name_of word >>= λ name. Ok (reply.Damaged name)
with_word OpenReads word = count_of word >>= λ count. Ok (reply.OpenReads count)
with_word NotUp word = node_of word >>= λ node. Ok (reply.NotUp node)
with_word Dropped word = count_of word >>= λ count. Ok (reply.Dropped count)
with_word Forgot word = id_of word >>= λ id. Ok (reply.Forgot id)
with_word Kept word = id_of word >>= λ id. Ok (reply.Kept id)
with_word Unknown word = uuid_of word >>= λ uuid. Ok (reply.Unknown uuid)
with_word Forgotten word = uuid_of word >>= λ uuid. Ok (reply.Forgotten uuid)
with_word head word = Err BadReply

-- a reply of its first word and others
abbrev pub with_words : Head → List (List ℕ) → Result Reply ReplyFault
with_words Busy words = node_and_inc words >>= λ it. Ok (reply.Busy it.0 it.1)
with_words Value words = id_and_value words
with_words NoValidVersion words = many take_blocker (length words) [] words >>= λ blocked. Ok (reply.NoValidVersion blocked)
with_words NodeDown words = node_and_inc words >>= λ it. Ok (reply.NodeDown it.0 it.1)
with_words Crashed words = node_and_inc words >>= λ it. Ok (reply.Crashed it.0 it.1)
with_words Started words = node_and_inc words >>= λ it. Ok (reply.Started it.0 it.1)
with_words IsUp words = node_and_inc words >>= λ it. Ok (reply.IsUp it.0 it.1)
with_words IsBooting words = node_and_inc words >>= λ it. Ok (reply.IsBooting it.0 it.1)
with_words Announced words = announced words
with_words Learned words = learned words
with_words Managed words = managed words
with_words Collected words = many take_judged (length words) [] words >>= λ judged. Ok (reply.Collected judged)
with_words Orphans words = orphans words
with_words Copied words = copied words
with_words head words = one_word words >>= with_word head

-- a reply by its first word, with the words behind it
abbrev pub by_head : Head → List (List ℕ) → Result Reply ReplyFault
by_head head words = option_map_or (λ reply. nothing reply words) (alone head) (with_words head words)

-- the reply of some words
abbrev pub reply_of_words : List (List ℕ) → Result Reply ReplyFault
reply_of_words [] = Err BadReply
reply_of_words (word ∷ rest) = ok_or (head_of word) BadReply >>= λ head. by_head head rest
