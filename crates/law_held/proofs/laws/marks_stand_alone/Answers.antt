use Rattle.law_runs.proofs.LegalRuns.{legal_goes, so_far_goes}
use Rattle.law_held.proofs.Copies.{marks_stand_alone}
use Rattle.law_held.proofs.laws.marks_stand_alone.Goals as goal

pub returns-clause-so_far : goal.returns-clause-so_far
returns-clause-so_far c asked ran so = marks_stand_alone asked ran (so_far_goes asked ran so)

pub returns-clause-legal : goal.returns-clause-legal
returns-clause-legal c asked ran legal = marks_stand_alone asked ran (legal_goes asked ran legal)
