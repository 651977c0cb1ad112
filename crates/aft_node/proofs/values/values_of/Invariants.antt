use Rattle.std.proofs.Common.{◌≡◌, map}
use Rattle.aft_txn.specs.declared.buffer.Write.{Write}
use Rattle.aft_node.proofs.values.values_of.Given as goal

abbrev pub invariant-loop-write : goal.invariant-loop-write
invariant-loop-write l = l.values.items ≡ map (λ (write : Write). write.value) l.yielded
