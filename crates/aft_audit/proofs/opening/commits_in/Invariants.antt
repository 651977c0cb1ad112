use Rattle.std.proofs.Common.{◌≡◌, take}
use Rattle.aft_model.specs.Sound.{recorded}
use Rattle.aft_audit.proofs.opening.commits_in.Given as goal

abbrev pub invariant-loop-pair : goal.invariant-loop-pair
invariant-loop-pair l = l.commits.items ≡ recorded (take l.pair-index l.pairs)
