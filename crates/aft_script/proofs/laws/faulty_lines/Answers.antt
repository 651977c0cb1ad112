use Rattle.std.proofs.Common.{refl}
use Rattle.hex.proofs.OnLiterals.{hex_on_literals}
use Rattle.aft_script.proofs.laws.faulty_lines.Goals as goal

pub returns-clause-no_digit : goal.returns-clause-no_digit
unfolding hex_on_literals
returns-clause-no_digit c = refl
