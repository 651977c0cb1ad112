use Rattle.law_steps.proofs.Exact.{exact}
use Rattle.law_steps.proofs.laws.fronts_are_exact.Goals as goal

pub returns : goal.returns
returns c trace = exact trace
