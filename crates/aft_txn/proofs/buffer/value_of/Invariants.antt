use Rattle.std.proofs.Common.{◌≡◌, drop, map}
use Rattle.aft_model.specs.Attempts.{buffered}
use Rattle.aft_txn.specs.Buffer.{as_write}
use Rattle.aft_txn.proofs.buffer.value_of.Given as goal

-- what is left has the key where all writes do
abbrev pub invariant-loop-write : goal.invariant-loop-write
invariant-loop-write l = buffered l.key (map as_write (drop l.write-index l.writes)) ≡ buffered l.key (map as_write l.writes)
