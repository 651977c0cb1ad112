use Rattle.std.proofs.Common.{◌≡◌, take}
use Rattle.aft_model.specs.Origins.{read_ids}
use Rattle.aft_ledger.proofs.origin.read_ids.Given as goal

abbrev pub invariant-loop-pair : goal.invariant-loop-pair
invariant-loop-pair l = l.ids.keys ≡ read_ids (take l.pair-index l.pairs)
