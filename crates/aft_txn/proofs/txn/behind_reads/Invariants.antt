use Rattle.std.proofs.Common.{◌≡◌, ◌-◌, ◌^◌, min, take}
use Rattle.aft_model.specs.NodeRules.{greatest_of, times_read}
use Rattle.aft_txn.proofs.txn.behind_reads.Given as goal

abbrev pub invariant-loop-pair : goal.invariant-loop-pair
invariant-loop-pair l = l.time ≡ min (greatest_of (times_read (take l.pair-index l.pairs))) (2 ^ 64 - 1)
