use Rattle.law_attempts.proofs.Attempts.{next_number, not_admitted_before, numbered, there_admitted}
use Rattle.law_attempts.proofs.laws.attempts_are_numbered.Goals as goal

pub returns-clause-numbered : goal.returns-clause-numbered
returns-clause-numbered c = numbered

pub returns-clause-there : goal.returns-clause-there
returns-clause-there c node capacity inc a history legal serve = there_admitted node capacity inc history legal serve a

pub returns-clause-next : goal.returns-clause-next
returns-clause-next c node capacity inc a uuid history entry legal serve still = next_number node capacity inc history entry legal serve still a uuid

pub returns-clause-new : goal.returns-clause-new
returns-clause-new c node capacity inc a uuid history entry legal serve still = not_admitted_before node capacity inc history entry legal serve still a uuid
