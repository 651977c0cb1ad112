use Rattle.std.proofs.Common.{take}
use Rattle.aft_model.specs.Sound.{recorded}
use Rattle.aft_audit.specs.Newest.{IsNewestOf}
use Rattle.aft_audit.proofs.newest.newest_of.Given as goal

abbrev pub invariant-loop-pair : goal.invariant-loop-pair
invariant-loop-pair l = IsNewestOf (recorded (take l.pair-index l.pairs)) l.newest.entries
