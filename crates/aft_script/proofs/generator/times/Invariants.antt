use Rattle.std.proofs.Common.{◌≡◌}
use Rattle.aft_script.specs.Generator.{times}
use Rattle.aft_script.proofs.generator.times.Given as goal

-- the steps, as often as they were added
abbrev pub invariant-loop-done : goal.invariant-loop-done
invariant-loop-done l = l.all.items ≡ times l._done l.steps
