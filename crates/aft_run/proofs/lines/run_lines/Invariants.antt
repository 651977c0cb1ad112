use Rattle.std.proofs.Common.{◌≤◌}
use Rattle.aft_run.proofs.lines.run_lines.Given as goal

-- the count of faults never falls
abbrev pub invariant-loop-line : goal.invariant-loop-line
invariant-loop-line g l = g.K.Keeper.faults l.fn.door.keeper ≤ g.K.Keeper.faults l.door.keeper
