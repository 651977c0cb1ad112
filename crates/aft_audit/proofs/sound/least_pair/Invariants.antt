use Rattle.std.proofs.Common.{◌≡◌, None, take}
use Rattle.std.specs.Prelude.{filter, map}
use Rattle.std.specs.List.{fold}
use Rattle.aft_keeper.specs.declared.keeper.Pair.{Pair}
use Rattle.aft_model.specs.Sound.{lesser, pair_offends, recorded}
use Rattle.aft_audit.proofs.sound.least_pair.Given as goal

abbrev pub invariant-loop-pair : goal.invariant-loop-pair
invariant-loop-pair l = l.least ≡ fold lesser None (map (λ (pair : Pair). pair.name) (filter (pair_offends (recorded l.pairs)) (take l.pair-index l.pairs)))
