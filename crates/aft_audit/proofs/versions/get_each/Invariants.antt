use Rattle.std.proofs.Common.{◌≤◌}
use Rattle.std.specs.List.Sorted.{IsStrictlySortedBy}
use Rattle.std.specs.Map.{keys_of}
use Rattle.std.specs.String.{string_cmp}
use Rattle.aft_audit.specs.Audit.{IsSameStore}
use Rattle.aft_audit.specs.Versions.{IsGetting}
use Rattle.aft_audit.proofs.versions.get_each.Given as goal

abbrev pub invariant-loop-text : goal.invariant-loop-text
invariant-loop-text g l = record {
  getting : IsGetting l.text-iterator l.names.entries l.pairs.items l.fn.door.history l.door.history;
  sorted : IsStrictlySortedBy string_cmp (keys_of l.text-iterator);
  store : IsSameStore l.fn.door l.door;
  falls : l.fn.door.faults ≤ l.door.faults;
}
