use Rattle.law_runs.proofs.LegalRuns.{legal_goes, so_far_goes}
use Rattle.law_gets.proofs.Gets.{blockers}
use Rattle.law_gets.proofs.laws.blockers_stay_named.Goals as goal

pub returns-clause-so_far : goal.returns-clause-so_far
returns-clause-so_far c asked ran so = blockers asked ran (so_far_goes asked ran so)

pub returns-clause-legal : goal.returns-clause-legal
returns-clause-legal c asked ran legal = blockers asked ran (legal_goes asked ran legal)
