use Rattle.std.proofs.Common.{◌≤◌}
use Rattle.aft_run.proofs.serial.finish.Given as goal

-- the count of faults never falls
abbrev pub invariant-loop-history : goal.invariant-loop-history
invariant-loop-history g l = g.O.Sink.faults l.fn.sink ≤ g.O.Sink.faults l.sink
