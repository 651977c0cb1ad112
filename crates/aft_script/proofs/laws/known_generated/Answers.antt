use Rattle.std.proofs.Common.{refl}
use Rattle.std.specs.Fmt.{digits}
use Rattle.aft_script.specs.Generator.{made_after, uuid_of_number}
use Rattle.aft_script.proofs.laws.known_generated.Goals as goal

pub returns : goal.returns
unfolding made_after uuid_of_number digits
returns c = refl
