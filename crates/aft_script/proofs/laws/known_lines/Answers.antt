use Rattle.std.proofs.Common.{refl}
use Rattle.hex.proofs.OnLiterals.{hex_on_literals}
use Rattle.uuid.proofs.OnLiterals.{uuid_on_literals}
use Rattle.aft_script.proofs.laws.known_lines.Goals as goal

pub returns-clause-empty_value : goal.returns-clause-empty_value
unfolding hex_on_literals
returns-clause-empty_value c = refl

pub returns-clause-digits : goal.returns-clause-digits
unfolding hex_on_literals
returns-clause-digits c = refl

pub returns-clause-forgotten : goal.returns-clause-forgotten
unfolding uuid_on_literals
returns-clause-forgotten c = refl
