-- What a step of a commit or an abort asks.
use Rattle.std.specs.Prelude.{Bool, IsTrue, List, Some, false, if◌then◌else◌, length, nat_lt, ℕ, ◌&&◌, ◌||◌}
use Rattle.std.specs.Str.{bytes_eq}
use Rattle.aft_model.specs.declared.caller.By.{By}
use Rattle.aft_model.specs.declared.door.DoorEntry.{DoorEntry}
use Rattle.aft_model.specs.declared.node.NodeAct.TheVariants as acts
use Rattle.aft_model.specs.declared.node.NodeEntry.{NodeEntry}
use Rattle.aft_model.specs.Attempts.{AttemptState, IsCommitting, is_committing, is_leaving}
use Rattle.aft_model.specs.Claims.{holds}
use Rattle.aft_model.specs.DoorKnowledge.{knows_stored, knows_unused}
use Rattle.aft_model.specs.Membership.{is_up}
use Rattle.aft_model.specs.NodeRules.{is_end, is_own_end, is_storing}
use Rattle.aft_model.specs.NodeSights.{is_fenced}
use Rattle.aft_model.specs.NodeState.{node_state}
use Rattle.aft_ledger.specs.Turns.{is_doing}
use Rattle.aft_lines.specs.CourseWords.{caller_of}
use Rattle.aft_lines.specs.LineView.{has_left}
use Rattle.aft_node.specs.Closing.{MayClose, opens_finish}
use Rattle.aft_commit.specs.declared.outcome.Outcome.{Outcome}
use Rattle.aft_commit.specs.declared.outcome.Outcome.TheVariants.{Absent, Left, Stored}
use Rattle.aft_commit.specs.declared.stage.Stage.{Stage}
use Rattle.aft_commit.specs.declared.stage.Stage.TheVariants.{Doubts, Ends, Failed, Recorded, Releases, Settles, Stores}
use Rattle.aft_commit.specs.View.{FinishView, told_of}

-- ---- what is asked of the caller

-- at the node, of a turn behind the first: the last entry of the line there opened the attempt's end, or stored its commit; and one that is told to be committed was stored by the line
abbrev pub may_close_at : By → Stage → List NodeEntry → Type 0
may_close_at by (Recorded a r) history = MayClose (opens_finish a) by history
may_close_at by (Doubts a reply) history = MayClose (opens_finish a) by history
may_close_at by (Ends a uuid outcome) history = MayClose (opens_finish a) by history × IsTrue (is_own_end history by (acts.End a) (Some (told_of outcome)))
may_close_at by stage history = Unit {0}

abbrev pub may_close : FinishView → List NodeEntry → Type 0
may_close finish history = may_close_at finish.by finish.stage history

-- at the door, of a put: what the incarnation must know of the UUID, and behind the versions of their puts
abbrev pub may_put_at : Stage → List DoorEntry → Type 0
may_put_at (Stores a r values count) history =
    IsTrue (if nat_lt count (length r.commit.keys) then knows_unused (caller_of a) r.commit.id.uuid history else knows_stored (caller_of a) r.commit history)
may_put_at stage history = Unit {0}

abbrev pub may_put : FinishView → List DoorEntry → Type 0
may_put finish history = may_put_at finish.stage history

-- what the incarnation of an attempt that stores knew before the line of the UUID: it has claimed it, and then found neither record nor marker
abbrev pub knew_unused_at : Stage → List DoorEntry → Type 0
knew_unused_at (Stores a r values count) history = IsTrue (knows_unused (caller_of a) r.commit.id.uuid history)
knew_unused_at stage history = Unit {0}

abbrev pub KnewUnused : FinishView → List DoorEntry → Type 0
KnewUnused finish history = knew_unused_at finish.stage history

-- ---- what only the run knows

-- whether an attempt commits under this UUID
abbrev pub commits_under : List ℕ → AttemptState → Bool
commits_under uuid (IsCommitting c) = bytes_eq uuid c.id.uuid
commits_under uuid state = false

-- whether an attempt in this state is to end so
abbrev pub may_end_with : List ℕ → Outcome → AttemptState → Bool
may_end_with uuid (Stored id) state = is_end state (Some (told_of (Stored id)))
may_end_with uuid Absent state = commits_under uuid state
may_end_with uuid (Left aborts) state = is_leaving state

-- at the node: the attempt still does what is to end, or the node has left its incarnation. It is so in each run so far
abbrev pub may_end_at : Stage → List NodeEntry → Type 0
may_end_at (Recorded a r) history = IsTrue (has_left a.inc (node_state history) || is_doing (is_storing r.commit) a history)
may_end_at (Doubts a reply) history = IsTrue (has_left a.inc (node_state history) || is_doing is_committing a history)
may_end_at (Ends a uuid outcome) history = IsTrue (has_left a.inc (node_state history) || is_doing (may_end_with uuid outcome) a history)
may_end_at stage history = Unit {0}

abbrev pub MayEnd : FinishView → List NodeEntry → Type 0
MayEnd finish history = may_end_at finish.stage history

-- at the door, where the attempt's incarnation wasn't fenced: it is up, and holds the UUID. This too is so in each run so far
abbrev pub may_call_at : Stage → List DoorEntry → Type 0
may_call_at (Settles a r values) history = IsTrue (is_fenced (caller_of a) history || is_up (caller_of a) history)
may_call_at (Stores a r values count) history = IsTrue (is_fenced (caller_of a) history || is_up (caller_of a) history && holds (caller_of a) r.commit.id.uuid history)
may_call_at (Failed a r) history = IsTrue (is_fenced (caller_of a) history || is_up (caller_of a) history)
may_call_at (Releases a uuid outcome) history = IsTrue (is_fenced (caller_of a) history || is_up (caller_of a) history && holds (caller_of a) uuid history)
may_call_at stage history = Unit {0}

abbrev pub MayCall : FinishView → List DoorEntry → Type 0
MayCall finish history = may_call_at finish.stage history
