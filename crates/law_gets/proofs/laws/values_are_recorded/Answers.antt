use Rattle.law_runs.proofs.LegalRuns.{legal_goes, so_far_goes}
use Rattle.law_gets.proofs.Values.{values_recorded}
use Rattle.law_gets.proofs.laws.values_are_recorded.Goals as goal

pub returns-clause-so_far : goal.returns-clause-so_far
returns-clause-so_far c asked ran so honest = values_recorded asked ran (so_far_goes asked ran so) honest

pub returns-clause-legal : goal.returns-clause-legal
returns-clause-legal c asked ran legal honest = values_recorded asked ran (legal_goes asked ran legal) honest
