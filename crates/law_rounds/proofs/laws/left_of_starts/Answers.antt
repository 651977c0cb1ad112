use Rattle.law_rounds.proofs.Starts.{booting, coming_up, scans}
use Rattle.law_rounds.proofs.laws.left_of_starts.Goals as goal

pub returns-clause-coming_up : goal.returns-clause-coming_up
returns-clause-coming_up c node nodes who ends line = coming_up node nodes ends who line

pub returns-clause-scanning : goal.returns-clause-scanning
returns-clause-scanning c node nodes after listed who ends line = scans node nodes ends who after listed line

pub returns-clause-scanned : goal.returns-clause-scanned
returns-clause-scanned c node nodes whole who ends line = booting node nodes ends who whole line
