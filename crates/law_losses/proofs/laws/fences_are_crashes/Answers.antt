use Rattle.law_runs.proofs.LegalRuns.{legal_goes, so_far_goes}
use Rattle.law_losses.proofs.Fences.{fenced_by_crash}
use Rattle.law_losses.proofs.laws.fences_are_crashes.Goals as goal

pub returns-clause-so_far : goal.returns-clause-so_far
returns-clause-so_far x asked ran e node inc runs among fences other = fenced_by_crash asked ran (so_far_goes asked ran runs) e node inc among fences other

pub returns-clause-legal : goal.returns-clause-legal
returns-clause-legal x asked ran e node inc legal among fences other = fenced_by_crash asked ran (legal_goes asked ran legal) e node inc among fences other
