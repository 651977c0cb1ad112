use Rattle.law_attempts.proofs.Newest.{acts_in_part, acts_of_own, last_in_part}
use Rattle.law_attempts.proofs.laws.attempts_belong_to_incarnations.Goals as goal

pub returns-clause-served : goal.returns-clause-served
returns-clause-served c = acts_of_own

pub returns-clause-part : goal.returns-clause-part
returns-clause-part c = acts_in_part

pub returns-clause-last : goal.returns-clause-last
returns-clause-last c = last_in_part
