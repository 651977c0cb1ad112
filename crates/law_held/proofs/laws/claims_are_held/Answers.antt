use Rattle.law_runs.proofs.LegalRuns.{legal_goes, so_far_goes}
use Rattle.law_held.proofs.Held.{claims_are_held}
use Rattle.law_held.proofs.laws.claims_are_held.Goals as goal

pub returns-clause-so_far : goal.returns-clause-so_far
returns-clause-so_far c asked ran so = claims_are_held asked ran (so_far_goes asked ran so)

pub returns-clause-legal : goal.returns-clause-legal
returns-clause-legal c asked ran legal = claims_are_held asked ran (legal_goes asked ran legal)
