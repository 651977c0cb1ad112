use Rattle.std.proofs.Common.{◌≡◌, ◌-◌, ◌^◌, min, take}
use Rattle.aft_model.specs.NodeRules.{greatest_of, times_written}
use Rattle.aft_ledger.proofs.ledger.asked.floor_of.Given as goal

abbrev pub invariant-loop-key : goal.invariant-loop-key
invariant-loop-key l = l.floor ≡ min (greatest_of (times_written (take l.key-index l.keys) l.known)) (2 ^ 64 - 1)
