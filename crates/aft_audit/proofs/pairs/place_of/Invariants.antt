use Rattle.std.proofs.Common.{◌-◌}
use Rattle.aft_audit.proofs.Search.{Between}
use Rattle.aft_audit.proofs.pairs.place_of.Given as goal

abbrev pub invariant-loop-low : goal.invariant-loop-low
invariant-loop-low l = Between l.name l.pairs l.low l.high

abbrev pub decreases-loop-low : goal.decreases-loop-low
decreases-loop-low l = l.high - l.low
