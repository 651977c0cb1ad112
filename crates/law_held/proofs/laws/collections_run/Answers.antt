use Rattle.law_held.proofs.Collects.{runs_until_ended}
use Rattle.law_held.proofs.laws.collections_run.Goals as goal

pub returns : goal.returns
returns c office by legal = runs_until_ended by office legal
