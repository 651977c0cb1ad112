use Rattle.std.proofs.Common.{◌≡◌, map, take}
use Rattle.aft_txn.specs.declared.buffer.Write.{Write}
use Rattle.aft_ledger.proofs.copies.keys_of.Given as goal

abbrev pub invariant-loop-write : goal.invariant-loop-write
invariant-loop-write l = l.keys.items ≡ map (λ (write : Write). write.key) (take l.write-index l.writes)
