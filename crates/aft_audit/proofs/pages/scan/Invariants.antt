use Rattle.std.proofs.Common.{◌≡◌, ◌≤◌, ◌-◌, length}
use Rattle.aft_audit.specs.Audit.{IsSameStore}
use Rattle.aft_audit.specs.Scans.{IsScanning, left_to_list}
use Rattle.aft_audit.proofs.pages.scan.Given as goal

abbrev pub invariant-loop-from : goal.invariant-loop-from
invariant-loop-from g l = record {
  runs : IsScanning l.prefix l.from l.fn.pairs.items l.pairs.items l.fn.door.history l.door.history;
  few : length l.pairs.items - l.known ≤ 20000;
  known : l.known ≡ length l.fn.pairs.items;
  store : IsSameStore l.fn.door l.door;
  falls : l.fn.door.faults ≤ l.door.faults;
}

abbrev pub decreases-loop-from : goal.decreases-loop-from
decreases-loop-from g l = left_to_list l.from (length l.pairs.items - l.known)
