-- What a line claims a UUID for.
use Rattle.std.proofs.Common.{◌≡◌}
use Rattle.aft_begin.specs.declared.aim.Aim.TheVariants.{Begin, Forget}

-- it is one thing or the other
pub aims_apart : Begin ≡ Forget → ⊥
aims_apart e = cc
