use Rattle.std.proofs.Common.{◌≡◌, drop}
use Rattle.aft_id.specs.declared.txn_id.TxnId.{TxnId}
use Rattle.aft_meta.specs.Index.{commits_of, known_at, lowered}
use Rattle.aft_meta.proofs.meta.lower_overtaken.Given as goal

-- the commits stay, and what is left to lower
abbrev pub invariant-loop-key : goal.invariant-loop-key
invariant-loop-key l =
    (commits_of l.commits.entries ≡ commits_of l.initial.commits.entries)
    × ((q : TxnId) → lowered (drop l.key-index l.keys) l.new l.writers.entries q (known_at q l.commits.entries) ≡ lowered l.keys l.new l.writers.entries q (known_at q l.initial.commits.entries))
