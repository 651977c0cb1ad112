use Rattle.aft_chron.specs.Tried.{IsSamePlace}
use Rattle.aft_chron.proofs.tests.thousand.Given as goal

-- the pass is as it was, but for what it has seen and made
abbrev pub invariant-loop-i : goal.invariant-loop-i
invariant-loop-i g l = IsSamePlace l.initial.pass l.pass
