use Rattle.std.proofs.Common.{◌≡◌, ◌++◌, take}
use Rattle.std.specs.Prelude.{IsTrue}
use Rattle.std.specs.List.{list_all}
use Rattle.aft_model.specs.Readings.{has_reading}
use Rattle.aft_model.specs.Sound.{recorded}
use Rattle.aft_boot.proofs.reading.with_commits.Given as goal

abbrev pub invariant-loop-pair : goal.invariant-loop-pair
invariant-loop-pair l = (l.commits.items ≡ l.fn.commits ++ recorded (take l.pair-index l.pairs)) × IsTrue (list_all has_reading (take l.pair-index l.pairs))
