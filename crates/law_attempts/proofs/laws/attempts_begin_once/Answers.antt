use Rattle.law_attempts.proofs.Attempts.{begun_once, fetching_runs, has_begun, has_started, started_once}
use Rattle.law_attempts.proofs.laws.attempts_begin_once.Goals as goal

pub returns-clause-begins : goal.returns-clause-begins
returns-clause-begins c node capacity inc a history legal serve = begun_once node capacity inc history legal serve a

pub returns-clause-starts : goal.returns-clause-starts
returns-clause-starts c node capacity inc a history legal serve = started_once node capacity inc history legal serve a

pub returns-clause-begun : goal.returns-clause-begun
returns-clause-begun c node capacity inc a history legal serve = has_begun node capacity inc history legal serve a

pub returns-clause-started : goal.returns-clause-started
returns-clause-started c node capacity inc a history legal serve = has_started node capacity inc history legal serve a

pub returns-clause-fetching : goal.returns-clause-fetching
returns-clause-fetching c node capacity inc a history legal serve = fetching_runs node capacity inc history legal serve a
