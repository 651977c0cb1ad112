use Rattle.std.proofs.Common.{List, ap, ◌∙◌}
use Rattle.std.specs.Prelude.{filter}
use Rattle.aft_id.specs.declared.txn_id.TxnId.{TxnId}
use Rattle.aft_records.specs.Commits.{ids_of}
use Rattle.aft_records.specs.declared.stored.Commit.{Commit}
use Rattle.aft_meta.specs.Index.{commits_of}
use Rattle.aft_meta.specs.KnownCommits.{supersedes_id}
use Rattle.aft_meta.proofs.Noting.{noted_list}
use Rattle.aft_meta.proofs.meta.MetaCommitSet.superseded_ids.Goals as goal

pub returns-clause-ids : goal.returns-clause-ids
returns-clause-ids c =
    c.from_vec.ensures ∙ c.in_ok-list.ensures.ids ∙ noted_list c.self.inside.superseded (commits_of c.self.inside.commits.entries) c.list.ensures.in_order c.self.invariant.index.in_order c.self.invariant.noted
    ∙ ap (λ (known : List Commit). filter (λ (id : TxnId). supersedes_id id known) (ids_of known)) c.self.view_is
