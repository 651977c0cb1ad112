use Rattle.std.proofs.Common.{◌≡◌, ℕ, List, ◌++◌, take, drop, map}
use Rattle.aft_model.specs.Attempts.{with_write}
use Rattle.aft_txn.specs.Buffer.{as_write, write_of}
use Rattle.aft_txn.proofs.buffer.place_of.Given as goal

-- a write goes into what is left
abbrev pub invariant-loop-at : goal.invariant-loop-at
invariant-loop-at l = (value : List ℕ) → with_write (as_write (write_of l.key value)) (map as_write l.writes) ≡ map as_write (take l.at l.writes) ++ with_write (as_write (write_of l.key value)) (map as_write (drop l.at l.writes))
