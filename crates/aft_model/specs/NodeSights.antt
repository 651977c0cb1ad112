-- What the entries of a node's history ask of the door's history, and of what their line was shown there. Each looks at the part that its front has seen.
use Rattle.std.specs.Prelude.{Bool, List, None, Option, Some, [], false, filter, length, nat_le, take, true, ℕ, ◌&&◌}
use Rattle.std.specs.Cmp.Lexicographic.{pointwise}
use Rattle.std.specs.List.{list_all, list_any}
use Rattle.std.specs.Str.{bytes_eq}
use Rattle.aft_id.specs.declared.txn_id.TxnId.{TxnId}
use Rattle.aft_id.specs.TxnId.{same_id}
use Rattle.aft_keeper.specs.declared.keeper.KeeperAnswer.TheVariants.{Found}
use Rattle.aft_keeper.specs.declared.keeper.KeeperCall.TheVariants.{Get}
use Rattle.aft_records.specs.declared.stored.Commit.{Commit}
use Rattle.aft_records.specs.Commits.{is_among, same_commit}
use Rattle.aft_records.specs.Superseded.{is_superseded}
use Rattle.aft_model.specs.declared.caller.By.{By}
use Rattle.aft_model.specs.declared.door.DoorAct.{DoorAct}
use Rattle.aft_model.specs.declared.door.DoorEntry.{DoorEntry}
use Rattle.aft_model.specs.declared.node.NodeAct.{NodeAct}
use Rattle.aft_model.specs.declared.node.NodeAct.TheVariants.{Begin, Boot, Down, End, GiveUp, Learn, Stored, Value}
use Rattle.aft_model.specs.declared.node.NodeEntry.{NodeEntry}
use Rattle.aft_model.specs.declared.reply.Reply.{Reply}
use Rattle.aft_model.specs.Attempts.{AttemptState, IsCommitting, attempt_state, uuid_of}
use Rattle.aft_model.specs.Committed.{committed, committed_by}
use Rattle.aft_model.specs.DoorKnowledge.{knows_unused}
use Rattle.aft_model.specs.Evidence.{shows_absent}
use Rattle.aft_model.specs.History.{at_place, each_after, followed}
use Rattle.aft_model.specs.Known.{known}
use Rattle.aft_model.specs.Membership.{Incarnation, fenced, incarnation, same_incarnation}
use Rattle.aft_model.specs.NodeState.{part}
use Rattle.aft_model.specs.Readings.{record_name, versions_in}
use Rattle.aft_model.specs.ScanRun.{ScanPage, commits_on, is_scan_run, same_line, scan_pages}
use Rattle.aft_model.specs.Sound.{records_prefix}
use Rattle.aft_model.specs.declared.door.DoorAct.TheVariants as door_acts
use Rattle.aft_model.specs.declared.reply.Reply.TheVariants as replies

-- the entries that a line made
abbrev pub own_entries : By → List DoorEntry → List DoorEntry
own_entries by entries = filter (λ entry. same_line by entry.by) entries

-- whether an act is the coming up of this incarnation
abbrev pub comes_up : Incarnation → DoorAct → Bool
comes_up who (door_acts.Up node inc) = same_incarnation who (incarnation node inc)
comes_up who act = false

-- whether a history has the fence of this incarnation
abbrev pub is_fenced : Incarnation → List DoorEntry → Bool
is_fenced who history = list_any (same_incarnation who) (fenced history)

-- whether pages show just these commits, in this order, and are a whole scan run of records
abbrev pub shows_commits : List Commit → List ScanPage → Bool
shows_commits commits pages = is_scan_run pages && pointwise same_commit (commits_on pages) commits

-- a boot serves: its incarnation came up, and then its line's scan run of records was whole and showed just these commits
abbrev pub is_boot_shown : Incarnation → By → List Commit → List DoorEntry → Bool
is_boot_shown who by commits seen = followed (λ entry. comes_up who entry.act) (λ since. shows_commits commits (scan_pages who by records_prefix since)) seen

-- whether a get of this incarnation found a version of this key, id and value
abbrev pub finds_version : Incarnation → List ℕ → TxnId → List ℕ → DoorAct → Bool
finds_version who key id value (door_acts.Call node inc (Get name) (Found bytes)) =
    same_incarnation who (incarnation node inc)
    && list_any (λ v. bytes_eq key v.key && same_id id v.id && bytes_eq value v.value) (versions_in (record { name = name; bytes = bytes }))
finds_version who key id value act = false

-- whether an entry is that get, for this line
abbrev pub is_own_find : Incarnation → By → List ℕ → TxnId → List ℕ → Option DoorEntry → Bool
is_own_find who by key id value None = false
is_own_find who by key id value (Some entry) = same_line by entry.by && finds_version who key id value entry.act

-- a fetched value is answered: at the place that is named its line's get found it
abbrev pub is_fetched : Incarnation → By → List ℕ → TxnId → ℕ → List DoorEntry → Option Reply → Bool
is_fetched who by key id place seen (Some (replies.Value answered value)) = is_own_find who by key id value (at_place place seen)
is_fetched who by key id place seen answer = false

-- whether a commit's record was put and acknowledged, or shown, by one of these entries
abbrev pub is_stored_by : Commit → List DoorEntry → Bool
is_stored_by c own = list_any (λ entry. is_among c (committed_by entry)) own

-- an attempt whose commit is fixed may be aborted only where its line was shown that there is no record of it
abbrev pub may_abort : List DoorEntry → AttemptState → Option Reply → Bool
may_abort own (IsCommitting c) (Some replies.Aborted) = list_any (shows_absent (record_name c.id.uuid)) own
may_abort own state answer = true

-- whether a commit of this id is committed, and the known ones supersede it
abbrev pub is_given_up_rightly : TxnId → List Commit → List DoorEntry → Bool
is_given_up_rightly id known seen = list_any (λ c. same_id id c.id && is_superseded c known) (committed seen)

-- whether an act of a node, after its history, has seen at the door what it asks
abbrev pub has_seen : ℕ → List DoorEntry → By → List NodeEntry → NodeAct → Option Reply → Bool
has_seen node seen by before (Boot inc commits) answer = is_boot_shown (incarnation node inc) by commits seen
has_seen node seen by before (Down inc) answer = is_fenced (incarnation node inc) seen
has_seen node seen by before (Begin a) answer = knows_unused (incarnation node a.inc) (uuid_of a (part before)) (own_entries by seen)
has_seen node seen by before (Value a key id place kept) answer = is_fetched (incarnation node a.inc) by key id place seen answer
has_seen node seen by before (Stored a c) answer = is_stored_by c (own_entries by seen)
has_seen node seen by before (End a) answer = may_abort (own_entries by seen) (attempt_state a (part before)) answer
has_seen node seen by before (Learn commits) answer = list_all (λ c. is_among c (committed seen)) commits
has_seen node seen by before (GiveUp id) answer = is_given_up_rightly id (known before) seen
has_seen node seen by before act answer = true

-- whether an entry has seen at the door what it asks, and no more of it than there is
abbrev pub may_come_at : ℕ → List DoorEntry → List NodeEntry → NodeEntry → Bool
may_come_at node door before entry = nat_le entry.front (length door) && has_seen node (take entry.front door) entry.by before entry.act entry.answer

-- whether each entry of a node's history has seen at the door what it asks
abbrev pub is_seen_node : ℕ → List DoorEntry → List NodeEntry → Bool
is_seen_node node door history = each_after (may_come_at node door) [] history
