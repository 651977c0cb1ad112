use Rattle.law_refused.proofs.Refused.{keeps}
use Rattle.law_refused.proofs.laws.refused_runs_keep_the_promise.Goals as goal

pub returns : goal.returns
returns c asked ran trace = keeps asked ran trace
