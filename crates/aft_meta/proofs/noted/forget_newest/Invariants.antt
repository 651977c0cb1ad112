use Rattle.std.proofs.Common.{◌≡◌, ◌&&◌, not, take}
use Rattle.aft_id.specs.declared.txn_id.TxnId.{TxnId}
use Rattle.aft_records.specs.Commits.{is_listed}
use Rattle.aft_meta.specs.Index.{is_newest_of}
use Rattle.aft_meta.proofs.noted.forget_newest.Given as goal

-- of the keys so far it is taken away
abbrev pub invariant-loop-key : goal.invariant-loop-key
invariant-loop-key l = (v : TxnId) → is_listed v l.superseded ≡ (is_listed v l.initial.superseded && not (is_newest_of (take l.key-index l.keys) v l.writers.entries))
