use Rattle.std.proofs.Common.{take, ◌≡◌}
use Rattle.aft_script.specs.Generator.{kept}
use Rattle.aft_script.proofs.generator.kept.Given as goal

-- those of the steps so far
abbrev pub invariant-loop-step : goal.invariant-loop-step
invariant-loop-step l = l.some.items ≡ kept l.lines (take l.step-index l.steps)
