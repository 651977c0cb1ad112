-- What is learned, dropped and announced.
use Rattle.std.specs.Prelude.{Bool, List, None, Option, Some, [], false, filter, if◌then◌else◌, length, not, take, true, ℕ, ◌+◌, ◌==◌, ◌⊎◌, ◌≡◌, ◌<◌}
use Rattle.std.specs.List.{fold}
use Rattle.aft_id.specs.declared.txn_id.TxnId.{TxnId}
use Rattle.aft_records.specs.declared.stored.Commit.{Commit}
use Rattle.aft_records.specs.Commits.{ids_of}
use Rattle.aft_records.specs.Superseded.{is_superseded}
use Rattle.aft_model.specs.declared.caller.By.{By}
use Rattle.aft_model.specs.declared.node.NodeAct.TheVariants as acts
use Rattle.aft_model.specs.declared.node.NodeEntry.{NodeEntry}
use Rattle.aft_model.specs.declared.reply.Reply.{Reply}
use Rattle.aft_model.specs.declared.reply.Reply.TheVariants as replies
use Rattle.aft_model.specs.Known.{droppable, known, unannounced}
use Rattle.aft_model.specs.NodeRules.{Counts, counted}
use Rattle.aft_model.specs.NodeState.{Service, part, service}
use Rattle.aft_meta.specs.declared.commit_set.Learnt.{Learnt}
use Rattle.aft_meta.specs.declared.commit_set.Learnt.TheVariants.{Known, Superseded, Taken}
use Rattle.aft_ledger.specs.declared.ledger.known.Told.{Told}
use Rattle.aft_ledger.specs.View.{NodeView, after_entry}

-- what came of learning commits, from what was known
abbrev pub tally : List Commit → List Commit → Counts
tally known commits = fold counted (record { known = known; taken = 0; superseded = 0; already = 0 }) commits

-- what is told with one commit more
abbrev pub told_more : Told → Learnt → Told
told_more told Taken = record told { taken = told.taken + 1 }
told_more told Superseded = record told { superseded = told.superseded + 1 }
told_more told Known = record told { known = told.known + 1 }

-- it is told so
pub record Tallied (known commits : List Commit) (told : Told) : Type 0 where
  pub taken : told.taken ≡ (tally known commits).taken
  pub superseded : told.superseded ≡ (tally known commits).superseded
  pub already : told.known ≡ (tally known commits).already

-- what is answered where all commits were learned, or memory was wanting for a further one
abbrev pub answer_told : Bool → Told → Reply
answer_told true told = replies.Learned told.taken told.superseded told.known
answer_told false told = replies.NoMemory

-- what the counts are answered
abbrev pub learned_reply : Counts → Reply
learned_reply c = replies.Learned c.taken c.superseded c.already

-- what is answered where so many of some commits were learned
abbrev pub learned_or : List Commit → List Commit → ℕ → Reply
learned_or known commits n = if n == length commits then learned_reply (tally known commits) else replies.NoMemory

-- commits are learned, all of them with their counts as the answer, or for want of memory those before one of them
abbrev pub Learns : ℕ → By → List Commit → NodeView → NodeView → Type 0
Learns handed by commits old new =
    (new ≡ after_entry handed by (acts.Learn commits) (Some (learned_reply (tally (known old.history) commits))) old)
    ⊎ ((n : ℕ) × (n < length commits) × (new ≡ after_entry handed by (acts.Learn (take n commits)) (Some replies.NoMemory) old))

-- the commits that are dropped in a service
abbrev pub droppable_in : Option Service → List Commit
droppable_in None = []
droppable_in (Some s) = droppable s

-- the ids of the commits that are dropped, in order
abbrev pub dropped_ids : List NodeEntry → List TxnId
dropped_ids history = ids_of (droppable_in (service history))

-- the stored commits that weren't announced: those that the known ones don't supersede, and the others
abbrev pub kept_apart : List NodeEntry → List Commit
kept_apart history = filter (λ c. not (is_superseded c (known history))) (unannounced (part history))

abbrev pub pruned_away : List NodeEntry → List Commit
pruned_away history = filter (λ c. is_superseded c (known history)) (unannounced (part history))
