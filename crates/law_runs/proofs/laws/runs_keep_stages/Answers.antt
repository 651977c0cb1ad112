use Rattle.law_runs.proofs.InStages.{stages_kept}
use Rattle.law_runs.proofs.LegalRuns.{legal_goes, so_far_goes}
use Rattle.law_runs.proofs.laws.runs_keep_stages.Goals as goal

pub returns-clause-so_far : goal.returns-clause-so_far
returns-clause-so_far c asked ran so = stages_kept asked ran (so_far_goes asked ran so)

pub returns-clause-legal : goal.returns-clause-legal
returns-clause-legal c asked ran legal = stages_kept asked ran (legal_goes asked ran legal)
