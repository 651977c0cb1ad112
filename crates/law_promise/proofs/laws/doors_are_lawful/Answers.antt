use Rattle.law_runs.proofs.LegalRuns.{legal_goes, so_far_goes}
use Rattle.law_promise.proofs.Doors.{lawful_door}
use Rattle.law_promise.proofs.laws.doors_are_lawful.Goals as goal

pub returns-clause-so_far : goal.returns-clause-so_far
returns-clause-so_far c asked ran so honest = lawful_door asked ran (so_far_goes asked ran so) honest

pub returns-clause-legal : goal.returns-clause-legal
returns-clause-legal c asked ran legal honest = lawful_door asked ran (legal_goes asked ran legal) honest
