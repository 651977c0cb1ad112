use Rattle.law_runs.proofs.LegalRuns.{legal_goes, so_far_goes}
use Rattle.law_promise.proofs.Doors.{closed}
use Rattle.law_promise.proofs.laws.ids_stay_closed.Goals as goal

pub returns-clause-so_far : goal.returns-clause-so_far
returns-clause-so_far c asked ran at_first so honest contents = closed asked ran (so_far_goes asked ran so) at_first contents honest

pub returns-clause-legal : goal.returns-clause-legal
returns-clause-legal c asked ran at_first legal honest contents = closed asked ran (legal_goes asked ran legal) at_first contents honest
