-- What AFT is for, said of the histories of a run: what transactions read and commit over a store that keeps what it acknowledged.
use Rattle.std.specs.Prelude.{Bool, IsTrue, List, None, Option, Some, [], false, filter, if◌then◌else◌, map, not, take, true, ℕ, ◌&&◌, ◌++◌, ◌==◌, ◌||◌, ◌∷◌}
use Rattle.std.specs.List.{flat_map, fold, last_or, list_all, list_any}
use Rattle.std.specs.Option.{option_eq}
use Rattle.std.specs.Str.{bytes_eq}
use Rattle.aft_id.specs.declared.txn_id.TxnId.{TxnId}
use Rattle.aft_id.specs.TxnId.{id_lt, same_id, zero_id}
use Rattle.aft_keeper.specs.declared.keeper.KeeperCall.TheVariants.{Put}
use Rattle.aft_keeper.specs.declared.keeper.Pair.{Pair}
use Rattle.aft_records.specs.declared.stored.Commit.{Commit}
use Rattle.aft_records.specs.Commits.{has_id, has_uuid, same_commit}
use Rattle.aft_records.specs.Superseded.{is_superseded, wrote}
use Rattle.aft_model.specs.declared.caller.Attempt.{Attempt}
use Rattle.aft_model.specs.declared.choice.Blocked.{Blocked}
use Rattle.aft_model.specs.declared.door.DoorAct.{DoorAct}
use Rattle.aft_model.specs.declared.door.DoorAct.TheVariants.{Call}
use Rattle.aft_model.specs.declared.door.DoorEntry.{DoorEntry}
use Rattle.aft_model.specs.declared.node.NodeAct.{NodeAct}
use Rattle.aft_model.specs.declared.node.NodeEntry.{NodeEntry}
use Rattle.aft_model.specs.declared.reply.Reply.{Reply}
use Rattle.aft_model.specs.declared.trace.Trace.{Trace}
use Rattle.aft_model.specs.AtomicReads.{is_atomic}
use Rattle.aft_model.specs.Attempts.{is_read, read_by, reads, same_attempt}
use Rattle.aft_model.specs.Choice.{wrote_at}
use Rattle.aft_model.specs.Committed.{committed}
use Rattle.aft_model.specs.DoorKnowledge.{is_open}
use Rattle.aft_model.specs.Evidence.{shown_pairs, stored_pairs}
use Rattle.aft_model.specs.History.{each_after}
use Rattle.aft_model.specs.Honest.{Honest}
use Rattle.aft_model.specs.Known.{known}
use Rattle.aft_model.specs.NodeRules.{are_ids_of}
use Rattle.aft_model.specs.NodeSights.{own_entries}
use Rattle.aft_model.specs.NodeState.{part}
use Rattle.aft_model.specs.Opening.{opening}
use Rattle.aft_model.specs.Readings.{id_of_marker, markers_in, records_in, versions_in}
use Rattle.aft_model.specs.Replies.{is_answer, same_reply}
use Rattle.aft_model.specs.Whole.{is_whole}
use Rattle.aft_model.specs.declared.node.NodeAct.TheVariants as acts
use Rattle.aft_model.specs.declared.reply.Reply.TheVariants as replies

-- ---- words

-- whether each history of a node, at each entry, passes a test of what stands before the entry and of the entry
abbrev pub each_entry : (List NodeEntry → NodeEntry → Bool) → Trace → Bool
each_entry test trace = list_all (each_after test []) trace.nodes

-- the door's history that an entry had seen
abbrev pub seen_at : Trace → NodeEntry → List DoorEntry
seen_at trace entry = take entry.front trace.door

-- ---- atomic read sets

-- the attempt that an act names by its get
abbrev pub reader_in : NodeAct → List Attempt
reader_in (acts.Select a key picked) = a ∷ []
reader_in act = []

-- whether the reads of each attempt that gets something are atomic beside these commits, after a history
abbrev pub all_read_whole : List Commit → List NodeEntry → Bool
all_read_whole commits history = list_all (λ a. is_atomic (reads a (part history)) commits) (flat_map (λ entry. reader_in entry.act) (part history))

-- whether at each moment each attempt's reads are atomic beside the commits that the door's history has
abbrev pub reads_atomic_sets : Trace → Bool
reads_atomic_sets trace = each_entry (λ before entry. all_read_whole (committed trace.door) (before ++ entry ∷ [])) trace

-- ---- recorded before

-- the values of a version that an entry put, where that was acknowledged, and that it shows
abbrev pub values_in : List ℕ → TxnId → Pair → List (List ℕ)
values_in key id pair = map (λ v. v.value) (filter (λ v. bytes_eq key v.key && same_id id v.id) (versions_in pair))

abbrev pub stored_values : List ℕ → TxnId → List DoorEntry → List (List ℕ)
stored_values key id entries = flat_map (λ entry. flat_map (values_in key id) (stored_pairs entry)) entries

abbrev pub shown_values : List ℕ → TxnId → List DoorEntry → List (List ℕ)
shown_values key id entries = flat_map (λ entry. flat_map (values_in key id) (shown_pairs entry)) entries

-- the value of a version: that of the last acknowledged put of it, or without one that which the opening was shown
abbrev pub value_of : List ℕ → TxnId → List DoorEntry → Option (List ℕ)
value_of key id seen = last_or None (shown_values key id (own_entries opening seen) ++ stored_values key id seen)

-- whether a value that was answered is that of the version
abbrev pub is_true_value : List ℕ → List DoorEntry → Option Reply → Bool
is_true_value key seen (Some (replies.Value id value)) = option_eq bytes_eq (value_of key id seen) (Some value)
is_true_value key seen answer = true

-- whether an id that was read is of a commit that was recorded before, or the zero id
abbrev pub is_recorded_id : List DoorEntry → TxnId → Bool
is_recorded_id seen id = same_id zero_id id || has_id id (committed seen)

-- whether an act reads what was recorded before, and answers the version's value
abbrev pub reads_recorded_in : List DoorEntry → NodeAct → Option Reply → Bool
reads_recorded_in seen (acts.Select a key picked) answer = list_all (is_recorded_id seen) (read_by picked) && is_true_value key seen answer
reads_recorded_in seen (acts.Value a key id place kept) answer = is_true_value key seen answer
reads_recorded_in seen act answer = true

-- whether each get reads what was recorded before, and answers the version's value
abbrev pub reads_recorded : Trace → Bool
reads_recorded trace = each_entry (λ before entry. reads_recorded_in (seen_at trace entry) entry.act entry.answer) trace

-- ---- own writes and repeats

-- the value that an act puts of a key for an attempt
abbrev pub put_by : Attempt → List ℕ → NodeAct → List (List ℕ)
put_by a key (acts.Put b put value) = if same_attempt a b && bytes_eq key put then value ∷ [] else []
put_by a key act = []

-- the last value that an attempt put of a key
abbrev pub last_put : Attempt → List ℕ → List NodeEntry → Option (List ℕ)
last_put a key history = last_or None (flat_map (λ entry. put_by a key entry.act) history)

-- whether an answer is the attempt's own last put, if it has one
abbrev pub is_own_put : Option (List ℕ) → Option Reply → Bool
is_own_put None answer = true
is_own_put (Some value) answer = is_answer (replies.Own value) answer

-- the answer to a get, if it is a value or that the key is absent
abbrev pub got_in : Option Reply → List Reply
got_in (Some (replies.Value id value)) = replies.Value id value ∷ []
got_in (Some replies.Absent) = replies.Absent ∷ []
got_in answer = []

-- what an act and its answer tell an attempt of a key
abbrev pub told_by : Attempt → List ℕ → NodeAct → Option Reply → List Reply
told_by a key (acts.Select b got picked) answer = if same_attempt a b && bytes_eq key got then got_in answer else []
told_by a key (acts.Value b got id place kept) answer = if same_attempt a b && bytes_eq key got then got_in answer else []
told_by a key act answer = []

-- what was told stays told, unless the attempt puts the key
abbrev pub told_since : List (List ℕ) → List Reply → List Reply
told_since [] before = before
told_since (value ∷ values) before = []

-- what an attempt was told of a key after an entry: its own put begins anew
abbrev pub told_after : Attempt → List ℕ → List Reply → NodeEntry → List Reply
told_after a key before entry = told_since (put_by a key entry.act) (before ++ told_by a key entry.act entry.answer)

-- what an attempt was told of a key since its own last put
abbrev pub told : Attempt → List ℕ → List NodeEntry → List Reply
told a key history = fold (told_after a key) [] history

-- whether what an entry tells an attempt of a key is what it was told before
abbrev pub repeats : Attempt → List ℕ → List NodeEntry → NodeEntry → Bool
repeats a key before entry = list_all (λ reply. list_all (same_reply reply) (told a key before)) (told_by a key entry.act entry.answer)

-- whether an entry, if it is of a get, answers the own last put, or repeats what was told
abbrev pub reads_own_in : List NodeEntry → NodeEntry → NodeAct → Bool
reads_own_in before entry (acts.Select a key picked) = is_own_put (last_put a key before) entry.answer && repeats a key before entry
reads_own_in before entry (acts.Value a key id place kept) = repeats a key before entry
reads_own_in before entry act = true

-- whether each get that follows an own put answers it, and gets of one key with no own put between answer the same
abbrev pub reads_own_and_repeats : Trace → Bool
reads_own_and_repeats trace = each_entry (λ before entry. reads_own_in before entry entry.act) trace

-- ---- an id commits once

-- whether no two of these commits have one UUID
abbrev pub has_one_each : List Commit → Bool
has_one_each commits = list_all (λ c. list_all (λ d. not (bytes_eq c.id.uuid d.id.uuid) || same_commit c d) commits) commits

-- whether a UUID is committed, or stands in a marker that was shown
abbrev pub is_used : List ℕ → List DoorEntry → Bool
is_used uuid history =
    list_any (has_uuid uuid) (committed history)
    || list_any (λ entry. list_any (λ pair. list_any (λ marker. bytes_eq uuid (id_of_marker marker).uuid) (markers_in pair)) (shown_pairs entry)) history

-- the commits whose records an act of a node puts, whatever was answered
abbrev pub record_put_by : DoorAct → List Commit
record_put_by (Call node inc (Put name bytes) answer) = if node == 0 then [] else records_in (record { name = name; bytes = bytes })
record_put_by act = []

-- whether each UUID has one commit, and no record of a used UUID is put by a node
abbrev pub commits_once : Trace → Bool
commits_once trace =
    has_one_each (committed trace.door)
    && each_after (λ before entry. list_all (λ c. not (is_used c.id.uuid before)) (record_put_by entry.act)) [] trace.door

-- ---- whole until superseded

-- whether each commit that isn't superseded is whole, once the door is open
abbrev pub all_whole : List DoorEntry → Bool
all_whole history = not (is_open history) || list_all (λ c. is_superseded c (committed history) || is_whole c history) (committed history)

-- whether an end that answers an id as committed has seen its record
abbrev pub is_acknowledged_in : List DoorEntry → NodeAct → Option Reply → Bool
is_acknowledged_in seen (acts.End a) (Some (replies.Committed id)) = has_id id (committed seen)
is_acknowledged_in seen act answer = true

-- whether at each moment each commit that isn't superseded is whole, and each acknowledged commit is one
abbrev pub whole_until_superseded : Trace → Bool
whole_until_superseded trace =
    each_after (λ before entry. all_whole (before ++ entry ∷ [])) [] trace.door
    && each_entry (λ before entry. is_acknowledged_in (seen_at trace entry) entry.act entry.answer) trace

-- ---- nothing is found deleted

-- whether an answer tells that what was chosen is gone or spoiled
abbrev pub tells_loss : Option Reply → Bool
tells_loss (Some (replies.Missing id)) = true
tells_loss (Some (replies.Damaged name)) = true
tells_loss answer = false

-- whether no reply tells that something is gone or spoiled
abbrev pub loses_nothing : Trace → Bool
loses_nothing trace = each_entry (λ before entry. not (tells_loss entry.answer)) trace && list_all (λ entry. not (tells_loss entry.answer)) trace.office

-- ---- blockers

-- whether a blocker names a key that its version's commit wrote, and a lower id at which the attempt read it
abbrev pub is_blocker : List Commit → Attempt → List NodeEntry → Blocked → Bool
is_blocker known a part blocked =
    wrote_at blocked.key blocked.id known
    && id_lt blocked.read blocked.id
    && is_read (record { key = blocked.key; id = blocked.read }) (reads a part)

-- whether blockers are of just the known commits that wrote the key
abbrev pub are_blockers : List ℕ → Attempt → List NodeEntry → List Blocked → Bool
are_blockers key a history blocked =
    are_ids_of (filter (wrote key) (known history)) (map (λ one. one.id) blocked) && list_all (is_blocker (known history) a (part history)) blocked

-- whether an act that answers that no version fits names a blocker of each
abbrev pub names_blockers_in : List NodeEntry → NodeAct → Option Reply → Bool
names_blockers_in before (acts.Select a key picked) (Some (replies.NoValidVersion blocked)) = are_blockers key a before blocked
names_blockers_in before act (Some (replies.NoValidVersion blocked)) = false
names_blockers_in before act answer = true

-- whether each answer that no version fits names, for each known version of the key, a conflicting earlier read
abbrev pub names_blockers : Trace → Bool
names_blockers trace = each_entry (λ before entry. names_blockers_in before entry.act entry.answer) trace

-- ---- the whole

-- the promise: reads are atomic read sets, of commits recorded before; own writes and repeats read back; an id commits once, until it is forgotten; commits stay whole until superseded; nothing chosen is found deleted; and where no version fits, a conflicting earlier read is named for each
pub record Headline (trace : Trace) : Type 0 where
  pub atomic_read_sets : IsTrue (reads_atomic_sets trace)
  pub recorded_before : IsTrue (reads_recorded trace)
  pub own_writes_and_repeats : IsTrue (reads_own_and_repeats trace)
  pub one_commit_an_id : IsTrue (commits_once trace)
  pub whole_commits : IsTrue (whole_until_superseded trace)
  pub nothing_found_deleted : IsTrue (loses_nothing trace)
  pub blockers_named : IsTrue (names_blockers trace)

-- histories that keep the promise, if the store keeps what it acknowledged
abbrev pub KeepsPromise : Trace → Type 0
KeepsPromise trace = Honest trace.door → Headline trace
