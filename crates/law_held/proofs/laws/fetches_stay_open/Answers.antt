use Rattle.law_runs.proofs.LegalRuns.{legal_goes, so_far_goes}
use Rattle.law_held.proofs.OpenFetches.{fetches_are_open}
use Rattle.law_held.proofs.laws.fetches_stay_open.Goals as goal

pub returns-clause-so_far : goal.returns-clause-so_far
returns-clause-so_far c asked ran so = fetches_are_open asked ran (so_far_goes asked ran so)

pub returns-clause-legal : goal.returns-clause-legal
returns-clause-legal c asked ran legal = fetches_are_open asked ran (legal_goes asked ran legal)
