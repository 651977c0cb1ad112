use Rattle.std.proofs.Common.{take}
use Rattle.aft_door.specs.Least.{LeastKept, keeps}
use Rattle.aft_door.proofs.ledger.least_kept.Given as goal

abbrev pub invariant-loop-place : goal.invariant-loop-place
invariant-loop-place l = LeastKept (keeps l.id l.given.keys) l.ups.entries (take l.place l.ups.entries) l.least
