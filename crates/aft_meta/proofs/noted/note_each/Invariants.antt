use Rattle.std.proofs.Common.{◌≡◌, ◌&&◌, ◌||◌, take}
use Rattle.aft_id.specs.declared.txn_id.TxnId.{TxnId}
use Rattle.aft_records.specs.Commits.{is_listed, with_id_order}
use Rattle.aft_meta.specs.Index.{commits_of, is_newest_of}
use Rattle.aft_meta.specs.KnownCommits.{supersedes_id}
use Rattle.aft_meta.proofs.noted.note_each.Given as goal

-- of the keys so far it is noted
abbrev pub invariant-loop-key : goal.invariant-loop-key
invariant-loop-key l =
    (v : TxnId) → is_listed v l.superseded ≡ (is_listed v l.initial.superseded || (is_newest_of (take l.key-index l.own) v l.writers.entries && supersedes_id v (with_id_order (commits_of l.commits.entries) l.commit)))
