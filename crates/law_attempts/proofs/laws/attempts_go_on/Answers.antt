use Rattle.law_attempts.proofs.Attempts.{fixed_for_good, gone_for_good, opens_once, runs_once, still_admitted}
use Rattle.law_attempts.proofs.laws.attempts_go_on.Goals as goal

pub returns-clause-gone : goal.returns-clause-gone
returns-clause-gone c node capacity inc a history more = gone_for_good node capacity inc a history more

pub returns-clause-opens : goal.returns-clause-opens
returns-clause-opens c node capacity inc a history more = opens_once node capacity inc a history more

pub returns-clause-runs : goal.returns-clause-runs
returns-clause-runs c node capacity inc a history more = runs_once node capacity inc a history more

pub returns-clause-fixed : goal.returns-clause-fixed
returns-clause-fixed c node capacity inc a x history more legal serve still admitted = fixed_for_good node capacity inc a history more legal serve still admitted x

pub returns-clause-admitted : goal.returns-clause-admitted
returns-clause-admitted c node capacity inc a history more = still_admitted node capacity inc a history more
