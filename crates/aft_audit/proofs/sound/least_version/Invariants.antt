use Rattle.std.proofs.Common.{◌≡◌, take}
use Rattle.std.specs.List.{flat_map, fold}
use Rattle.aft_model.specs.Sound.{lesser, missing_versions, recorded}
use Rattle.aft_audit.proofs.sound.least_version.Given as goal

abbrev pub invariant-loop-pair : goal.invariant-loop-pair
invariant-loop-pair l = l.least ≡ fold lesser l.initial.least (flat_map (missing_versions l.pairs) (recorded (take l.pair-index l.pairs)))
