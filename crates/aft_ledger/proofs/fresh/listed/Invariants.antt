use Rattle.std.proofs.Common.{◌≡◌, ◌++◌}
use Rattle.aft_ledger.specs.Fresh.{in_map}
use Rattle.aft_ledger.proofs.fresh.listed.Given as goal

abbrev pub invariant-loop-id : goal.invariant-loop-id
invariant-loop-id l = l.commits.items ++ in_map l.id-iterator ≡ in_map l.map.entries
