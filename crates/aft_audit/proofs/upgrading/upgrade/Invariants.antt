use Rattle.std.proofs.Common.{◌≤◌, drop}
use Rattle.std.specs.Prelude.{IsTrue}
use Rattle.aft_model.specs.DoorKnowledge.{is_untouched}
use Rattle.aft_audit.specs.Audit.{IsSameStore}
use Rattle.aft_audit.specs.Upgrading.{HasPassed}
use Rattle.aft_audit.proofs.upgrading.upgrade.Given as goal

abbrev pub invariant-loop-commit : goal.invariant-loop-commit
invariant-loop-commit g l = record {
  passed : HasPassed l.commits (drop l.commit-index l.commits) l.puts l.fn.door.history l.door.history;
  few : l.puts ≤ l.commit-index;
  untouched : IsTrue (is_untouched l.door.history);
  store : IsSameStore l.fn.door l.door;
  falls : l.fn.door.faults ≤ l.door.faults;
}
