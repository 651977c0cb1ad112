-- The rules of a node's history, one for each kind of entry, as far as they speak of that history alone: what the entry may say, and what it answers.
use Rattle.std.specs.Prelude.{Bool, List, None, Option, Some, false, filter, if◌then◌else◌, is_some, length, map, max, nat_lt, not, suc, true, ℕ, ◌&&◌, ◌==◌, ◌||◌}
use Rattle.std.specs.Cmp.Lexicographic.{pointwise}
use Rattle.std.specs.List.{fold, list_all, list_any}
use Rattle.std.specs.Str.{bytes_eq}
use Rattle.aft_id.specs.declared.txn_id.TxnId.{TxnId}
use Rattle.aft_id.specs.TxnId.{same_id}
use Rattle.aft_records.specs.declared.stored.Commit.{Commit}
use Rattle.aft_records.specs.Commits.{has_id, is_listed, same_commit, with_commit}
use Rattle.aft_records.specs.Kept.{Kept, kept_value}
use Rattle.aft_records.specs.Limits.{is_time}
use Rattle.aft_records.specs.Superseded.{is_superseded, wrote}
use Rattle.aft_model.specs.declared.caller.Attempt.{Attempt}
use Rattle.aft_model.specs.declared.caller.By.{By}
use Rattle.aft_model.specs.declared.choice.Choice.{Choice}
use Rattle.aft_model.specs.declared.choice.Picked.{Picked}
use Rattle.aft_model.specs.declared.node.NodeAct.{NodeAct}
use Rattle.aft_model.specs.declared.node.NodeAct.TheVariants.{End, Stored}
use Rattle.aft_model.specs.declared.node.NodeEntry.{NodeEntry}
use Rattle.aft_model.specs.declared.read_set.ReadPair.{ReadPair}
use Rattle.aft_model.specs.declared.reply.Reply.{Reply}
use Rattle.aft_model.specs.Attempts.{AttemptState, IsCommitting, attempt_state, attempts, buffer, buffered, is_leaving, is_of, is_running, open_reads, present_of, reads, same_attempt, written_keys}
use Rattle.aft_model.specs.Cache.{cache}
use Rattle.aft_model.specs.Choice.{choice}
use Rattle.aft_model.specs.Known.{known_in, unannounced}
use Rattle.aft_model.specs.NodeState.{IsBooting, IsDown, IsServing, NodeState, Service}
use Rattle.aft_model.specs.Replies.{is_answer, is_silent, same_blockers}
use Rattle.aft_model.specs.ScanRun.{same_line}
use Rattle.aft_model.specs.declared.choice.Choice.TheVariants as choices
use Rattle.aft_model.specs.declared.choice.Picked.TheVariants as picked
use Rattle.aft_model.specs.declared.reply.Reply.TheVariants as replies

-- the most keys that an attempt may write
abbrev pub most_keys : ℕ
most_keys = 32

-- ---- answers alone

-- what an entry that does nothing may answer: why nothing is done, or at the end of a line what came of what it did elsewhere. All other replies come with the act that they tell of
abbrev pub may_answer_alone : Option Reply → Bool
may_answer_alone (Some (replies.Joined uuid)) = true
may_answer_alone (Some (replies.Busy node inc)) = true
may_answer_alone (Some (replies.NodeDown node inc)) = true
may_answer_alone (Some replies.NoTransaction) = true
may_answer_alone (Some replies.Committing) = true
may_answer_alone (Some replies.TooManyKeys) = true
may_answer_alone (Some (replies.OpenReads count)) = true
may_answer_alone (Some replies.ClockEnd) = true
may_answer_alone (Some (replies.Crashed node inc)) = true
may_answer_alone (Some (replies.NotUp node)) = true
may_answer_alone (Some (replies.IsUp node inc)) = true
may_answer_alone (Some (replies.IsBooting node inc)) = true
may_answer_alone (Some (replies.Announced kept pruned dropped)) = true
may_answer_alone (Some replies.NoMemory) = true
may_answer_alone answer = false

-- ---- boots

-- a boot begins: of the incarnation after the newest where the node is down, or of the one that it boots where no boot runs
abbrev pub may_begin_boot : ℕ → ℕ → NodeState → Bool
may_begin_boot inc newest IsDown = inc == suc newest
may_begin_boot inc newest (IsBooting booting running) = inc == booting && not running
may_begin_boot inc newest (IsServing serving) = false

-- what a boot that is stopped may answer
abbrev pub is_boot_refusal : Option Reply → Bool
is_boot_refusal (Some replies.StoreFault) = true
is_boot_refusal (Some (replies.Damaged name)) = true
is_boot_refusal (Some replies.TooManyRecords) = true
is_boot_refusal (Some (replies.NodeDown node inc)) = true
is_boot_refusal (Some replies.NoMemory) = true
is_boot_refusal answer = false

-- ---- begin

-- an attempt is admitted: it is of this node and this service, it has the next number, and no attempt of its UUID is there
abbrev pub may_admit : ℕ → Service → Attempt → List ℕ → Bool
may_admit node serving a uuid =
    a.node == node && a.inc == serving.inc && a.number == suc (length (attempts serving.part)) && length (present_of uuid serving.part) == 0

-- an opening attempt runs, and its UUID is answered
abbrev pub is_begun : Service → Attempt → Option Reply → Bool
is_begun serving a (Some (replies.Begun uuid)) = is_of uuid serving.part a
is_begun serving a answer = false

-- what the begin or the forget of an attempt that is taken away may answer
abbrev pub is_begin_refusal : Option Reply → Bool
is_begin_refusal (Some (replies.Committed id)) = true
is_begin_refusal (Some (replies.Forgot id)) = true
is_begin_refusal (Some (replies.Kept id)) = true
is_begin_refusal (Some (replies.Unknown uuid)) = true
is_begin_refusal (Some (replies.Forgotten uuid)) = true
is_begin_refusal (Some (replies.Busy node inc)) = true
is_begin_refusal (Some (replies.Damaged name)) = true
is_begin_refusal (Some replies.StoreFault) = true
is_begin_refusal (Some (replies.NodeDown node inc)) = true
is_begin_refusal (Some replies.NoMemory) = true
is_begin_refusal answer = false

-- ---- put and get

-- a put: the attempt has buffered the key, or fewer keys than it may write
abbrev pub may_put_key : Service → Attempt → List ℕ → Bool
may_put_key serving a key = is_some (buffered key (buffer a serving.part)) || nat_lt (length (buffer a serving.part)) most_keys

-- a version that is picked: its value where it is kept, and else it is fetched
abbrev pub kept_or_fetched : TxnId → Option (List ℕ) → Picked
kept_or_fetched id (Some value) = picked.Cached id value
kept_or_fetched id None = picked.Fetch id

-- what a choice picks
abbrev pub picked_by : List ℕ → List Kept → Choice → Picked
picked_by key kept (choices.Version id) = kept_or_fetched id (kept_value key id kept)
picked_by key kept choices.Absent = picked.Absent
picked_by key kept (choices.NoneFits blocked) = picked.NoneFits blocked

-- what a get picks: the attempt's own last put of the key, or else by the choice
abbrev pub own_or : Option (List ℕ) → Picked → Picked
own_or (Some value) otherwise = picked.Own value
own_or None otherwise = otherwise

-- what a get of a key picks in a service of a node that keeps so many values
abbrev pub pick : ℕ → Service → Attempt → List ℕ → Picked
pick capacity serving a key =
    own_or (buffered key (buffer a serving.part)) (picked_by key (cache capacity serving.part) (choice key (reads a serving.part) (known_in serving)))

-- whether two picks are the same
abbrev pub same_picked : Picked → Picked → Bool
same_picked (picked.Own value) (picked.Own value') = bytes_eq value value'
same_picked (picked.Cached id value) (picked.Cached id' value') = same_id id id' && bytes_eq value value'
same_picked (picked.Fetch id) (picked.Fetch id') = same_id id id'
same_picked picked.Absent picked.Absent = true
same_picked (picked.NoneFits blocked) (picked.NoneFits blocked') = same_blockers blocked blocked'
same_picked a b = false

-- what a pick answers: a version that is fetched isn't answered yet
abbrev pub answers_pick : Picked → Option Reply → Bool
answers_pick (picked.Own value) answer = is_answer (replies.Own value) answer
answers_pick (picked.Cached id value) answer = is_answer (replies.Value id value) answer
answers_pick (picked.Fetch id) answer = is_silent answer
answers_pick picked.Absent answer = is_answer replies.Absent answer
answers_pick (picked.NoneFits blocked) answer = is_answer (replies.NoValidVersion blocked) answer

-- the value of a fetched version is answered
abbrev pub is_value_of : TxnId → Option Reply → Bool
is_value_of id (Some (replies.Value answered value)) = same_id id answered
is_value_of id answer = false

-- what a fetch that gave no value may answer
abbrev pub is_fetch_refusal : TxnId → Option Reply → Bool
is_fetch_refusal id (Some (replies.Missing missing)) = same_id id missing
is_fetch_refusal id (Some (replies.Damaged name)) = true
is_fetch_refusal id (Some replies.StoreFault) = true
is_fetch_refusal id (Some (replies.NodeDown node inc)) = true
is_fetch_refusal id (Some replies.NoMemory) = true
is_fetch_refusal id answer = false

-- ---- commit and abort

-- the greatest of some numbers, or 0
abbrev pub greatest_of : List ℕ → ℕ
greatest_of numbers = fold max 0 numbers

-- the times of what was read
abbrev pub times_read : List ReadPair → List ℕ
times_read pairs = map (λ pair. suc pair.id.time) pairs

-- the times of the known commits that wrote one of these keys
abbrev pub times_written : List (List ℕ) → List Commit → List ℕ
times_written keys known = map (λ c. suc c.id.time) (filter (λ c. list_any (λ key. wrote key c) keys) known)

-- the time of a commit: the greatest of 1, the clock's time, one more than each time that the attempt read, and one more than that of each known commit that wrote one of its keys
abbrev pub commit_time : ℕ → List ReadPair → List (List ℕ) → List Commit → ℕ
commit_time now pairs keys known = max (max 1 now) (max (greatest_of (times_read pairs)) (greatest_of (times_written keys known)))

-- a commit is fixed: of an attempt that runs, has buffered keys and has no fetch that isn't over; with those keys, its UUID, and a time that is in range
abbrev pub may_start : Service → Attempt → ℕ → Commit → Bool
may_start serving a now c =
    is_running (attempt_state a serving.part)
    && not (length c.keys == 0)
    && open_reads a serving.part == 0
    && pointwise bytes_eq c.keys (written_keys (buffer a serving.part))
    && is_of c.id.uuid serving.part a
    && c.id.time == commit_time now (reads a serving.part) c.keys (known_in serving)
    && is_time c.id.time

-- an attempt leaves: it runs, and has no fetch that isn't over
abbrev pub may_leave : Service → Attempt → Bool
may_leave serving a = is_running (attempt_state a serving.part) && open_reads a serving.part == 0

-- whether an attempt is storing this commit
abbrev pub is_storing : Commit → AttemptState → Bool
is_storing c (IsCommitting fixed) = same_commit c fixed
is_storing c state = false

-- what a commit or an abort that leaves its attempt in doubt may answer
abbrev pub is_doubt : Option Reply → Bool
is_doubt (Some replies.StoreFault) = true
is_doubt (Some replies.InDoubt) = true
is_doubt (Some (replies.Damaged name)) = true
is_doubt (Some (replies.NodeDown node inc)) = true
is_doubt (Some replies.NoMemory) = true
is_doubt answer = false

-- what the end of an attempt answers: of one that commits its id, or that it is aborted, and of one that leaves that it is ended or aborted
abbrev pub is_end : AttemptState → Option Reply → Bool
is_end (IsCommitting c) (Some (replies.Committed id)) = same_id c.id id
is_end (IsCommitting c) (Some replies.Aborted) = true
is_end state (Some replies.Ended) = is_leaving state
is_end state (Some replies.Aborted) = is_leaving state
is_end state answer = false

-- whether an act stores a commit of this id for an attempt
abbrev pub stores : Attempt → TxnId → NodeAct → Bool
stores a id (Stored b c) = same_attempt a b && same_id id c.id
stores a id act = false

-- whether an end that answers an id as committed comes after the storing of that commit by the same line; any other act may come
abbrev pub is_own_end : List NodeEntry → By → NodeAct → Option Reply → Bool
is_own_end part by (End a) (Some (replies.Committed id)) = list_any (λ entry. same_line by entry.by && stores a id entry.act) part
is_own_end part by act answer = true

-- ---- mail and collection

-- how many of some commits are taken in, are superseded, and are known
pub record Counts : Type 0 where
  pub known : List Commit
  pub taken : ℕ
  pub superseded : ℕ
  pub already : ℕ

-- the counts with one commit more
abbrev pub counted : Counts → Commit → Counts
counted counts c =
    if has_id c.id counts.known then record { known = counts.known; taken = counts.taken; superseded = counts.superseded; already = suc counts.already }
    else if is_superseded c counts.known then record { known = counts.known; taken = counts.taken; superseded = suc counts.superseded; already = counts.already }
    else record { known = with_commit counts.known c; taken = suc counts.taken; superseded = counts.superseded; already = counts.already }

-- the counts of commits that a service learns
abbrev pub counts : Service → List Commit → Counts
counts serving commits = fold counted (record { known = known_in serving; taken = 0; superseded = 0; already = 0 }) commits

-- what is answered where commits were learned: the counts, or that memory was wanting for a further one
abbrev pub is_learned : Counts → Option Reply → Bool
is_learned counts (Some replies.NoMemory) = true
is_learned counts answer = is_answer (replies.Learned counts.taken counts.superseded counts.already) answer

-- whether these are the ids of these commits, each once, in any order
abbrev pub are_ids_of : List Commit → List TxnId → Bool
are_ids_of commits ids = length ids == length commits && list_all (λ id. has_id id commits) ids && list_all (λ c. is_listed c.id ids) commits

-- the unannounced commits are taken: those that the known ones supersede are left out, and the others kept, both in id order
abbrev pub may_announce : Service → List Commit → List Commit → Bool
may_announce serving kept pruned =
    pointwise same_commit kept (filter (λ c. not (is_superseded c (known_in serving))) (unannounced serving.part))
    && pointwise same_commit pruned (filter (λ c. is_superseded c (known_in serving)) (unannounced serving.part))
