use Rattle.std.proofs.Common.{◌≡◌, take}
use Rattle.aft_ledger.specs.Fresh.{in_map, once_each}
use Rattle.aft_ledger.proofs.fresh.by_id.Given as goal

abbrev pub invariant-loop-commit : goal.invariant-loop-commit
invariant-loop-commit l = in_map l.map.entries ≡ once_each (take l.commit-index l.commits)
