use Rattle.std.proofs.Common.{◌≤◌}
use Rattle.aft_run.proofs.replies.write_replies.Given as goal

-- the count of faults never falls
abbrev pub invariant-loop-entry : goal.invariant-loop-entry
invariant-loop-entry g l = g.O.Sink.faults l.fn.sink ≤ g.O.Sink.faults l.sink
