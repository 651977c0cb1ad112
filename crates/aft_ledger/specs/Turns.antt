-- What a turn asks of the history before it makes its entry, and what that entry says.
use Rattle.std.specs.Prelude.{Bool, List, None, Option, Some, [], is_some, length, min, nat_lt, not, suc, true, ℕ, ◌&&◌, ◌-◌, ◌^◌, ◌||◌, ◌∷◌, option_map}
use Rattle.aft_records.specs.declared.stored.Commit.{Commit}
use Rattle.aft_records.specs.Commits.{has_id}
use Rattle.aft_model.specs.declared.caller.Attempt.{Attempt}
use Rattle.aft_model.specs.declared.choice.Picked.{Picked}
use Rattle.aft_model.specs.declared.choice.Picked.TheVariants as picked
use Rattle.aft_model.specs.declared.node.NodeEntry.{NodeEntry}
use Rattle.aft_model.specs.declared.reply.Reply.{Reply}
use Rattle.aft_model.specs.declared.reply.Reply.TheVariants as replies
use Rattle.aft_model.specs.Attempts.{AttemptState, attempt_state, buffer, buffered, is_gone, open_reads, reads, uuid_of, written_keys}
use Rattle.aft_model.specs.Known.{known}
use Rattle.aft_model.specs.NodeRules.{commit_time, greatest_of, most_keys, pick, times_written}
use Rattle.aft_model.specs.NodeState.{IsBooting, IsServing, NodeState, newest, node_state, part, serves, service}
use Rattle.aft_ledger.specs.View.{NodeView}

-- ---- boots

-- no two commits have one id
abbrev pub ids_differ : List Commit → Bool
ids_differ [] = true
ids_differ (c ∷ commits) = not (has_id c.id commits) && ids_differ commits

-- why no boot begins
abbrev pub boot_refusal : ℕ → NodeState → Option Reply
boot_refusal number (IsServing s) = Some (replies.IsUp number s.inc)
boot_refusal number (IsBooting inc true) = Some (replies.IsBooting number inc)
boot_refusal number state = None

-- the incarnation that boots next
abbrev pub next_boot : List NodeEntry → NodeState → ℕ
next_boot history (IsBooting inc running) = inc
next_boot history state = suc (newest history)

-- ---- what an attempt is doing

-- whether the node serves an attempt's incarnation, and the attempt is doing this
abbrev pub is_doing : (AttemptState → Bool) → Attempt → List NodeEntry → Bool
is_doing test a history = serves a.inc (node_state history) && test (attempt_state a (part history))

-- the same, of an attempt that is there and has a read that isn't over
abbrev pub is_fetching : Attempt → List NodeEntry → Bool
is_fetching a history = is_doing (λ state. not (is_gone state) && nat_lt 0 (open_reads a (part history))) a history

-- ---- puts and gets

-- whether an attempt has buffered a key, or fewer keys than it may write
abbrev pub may_put : Attempt → List ℕ → List NodeEntry → Bool
may_put a key history = is_some (buffered key (buffer a (part history))) || nat_lt (length (buffer a (part history))) most_keys

-- what a get picks while the node serves
abbrev pub picks : NodeView → Attempt → List ℕ → Option Picked
picks node a key = option_map (λ s. pick node.capacity s a key) (service node.history)

-- what a pick answers: a version that is fetched isn't answered yet
abbrev pub answer_of : Picked → Option Reply
answer_of (picked.Own value) = Some (replies.Own value)
answer_of (picked.Cached id value) = Some (replies.Value id value)
answer_of (picked.Fetch id) = None
answer_of picked.Absent = Some replies.Absent
answer_of (picked.NoneFits blocked) = Some (replies.NoValidVersion blocked)

-- ---- commits

-- a time, as far as times go
abbrev pub within_times : ℕ → ℕ
within_times time = min time (2 ^ 64 - 1)

-- one more than the greatest time of a known commit that wrote one of these keys, as far as times go, or 0
abbrev pub floor_of : List (List ℕ) → List Commit → ℕ
floor_of keys commits = within_times (greatest_of (times_written keys commits))

-- the commit of an attempt that starts now
abbrev pub commit_of : ℕ → Attempt → List NodeEntry → Commit
commit_of now a history = record {
  id = record { time = commit_time now (reads a (part history)) (written_keys (buffer a (part history))) (known history); uuid = uuid_of a (part history) };
  keys = written_keys (buffer a (part history));
}
