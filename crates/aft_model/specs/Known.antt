-- The commits that a node knows while it serves, and those that it holds on to.
use Rattle.std.specs.Prelude.{Bool, List, None, Option, Some, [], false, filter, not, ◌&&◌, ◌||◌}
use Rattle.std.specs.List.{fold, list_any}
use Rattle.aft_id.specs.declared.txn_id.TxnId.{TxnId}
use Rattle.aft_id.specs.TxnId.{same_id}
use Rattle.aft_records.specs.declared.stored.Commit.{Commit}
use Rattle.aft_records.specs.Commits.{first_known, has_id, with_commit, with_id_once, without_ids}
use Rattle.aft_records.specs.Superseded.{is_superseded}
use Rattle.aft_model.specs.declared.node.NodeAct.{NodeAct}
use Rattle.aft_model.specs.declared.node.NodeAct.TheVariants.{Announce, Drop, Learn, Stored}
use Rattle.aft_model.specs.declared.node.NodeEntry.{NodeEntry}
use Rattle.aft_model.specs.Attempts.{attempt_state, fixed_commit, is_pinned, present}
use Rattle.aft_model.specs.NodeState.{Service, service}

-- what is known after an act
abbrev pub known_after : List Commit → NodeAct → List Commit
known_after known (Learn commits) = fold with_commit known commits
known_after known (Stored a c) = with_commit known c
known_after known (Drop ids) = without_ids ids known
known_after known act = known

-- what is known in a service, in id order: what its boot was shown and isn't superseded, then what was learned and stored, less what was dropped
abbrev pub known_in : Service → List Commit
known_in serving = fold (λ before entry. known_after before entry.act) (first_known serving.booted) serving.part

-- what a node in a service knows, or nothing
abbrev pub known_of : Option Service → List Commit
known_of None = []
known_of (Some serving) = known_in serving

-- what a node knows after a history
abbrev pub known : List NodeEntry → List Commit
known history = known_of (service history)

-- whether an attempt has fixed a commit of this id
abbrev pub is_fixed_at : TxnId → Option Commit → Bool
is_fixed_at id None = false
is_fixed_at id (Some c) = same_id id c.id

-- whether a service holds on to an id: it knows a commit of it, or an attempt commits under it or is in doubt about it
abbrev pub holds_id : TxnId → Service → Bool
holds_id id serving = has_id id (known_in serving) || list_any (λ a. is_fixed_at id (fixed_commit (attempt_state a serving.part))) (present serving.part)

-- the commits that the known ones supersede and that no attempt has read
abbrev pub droppable : Service → List Commit
droppable serving = filter (λ c. is_superseded c (known_in serving) && not (is_pinned c.id serving.part)) (known_in serving)

-- the commits to announce after an act: a stored one joins them in id order, unless it is there, and an announcement takes them
abbrev pub unannounced_after : List Commit → NodeAct → List Commit
unannounced_after before (Stored a c) = with_id_once before c
unannounced_after before (Announce kept pruned) = []
unannounced_after before act = before

-- the stored commits that weren't announced, in id order, each id once
abbrev pub unannounced : List NodeEntry → List Commit
unannounced part = fold (λ before entry. unannounced_after before entry.act) [] part
