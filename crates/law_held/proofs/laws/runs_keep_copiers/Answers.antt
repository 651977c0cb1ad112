use Rattle.law_runs.proofs.LegalRuns.{legal_goes, so_far_goes}
use Rattle.law_held.proofs.Copiers.{copiers_behind}
use Rattle.law_held.proofs.CopiersEnd.{legal_spares}
use Rattle.law_held.proofs.laws.runs_keep_copiers.Goals as goal

pub returns-clause-so_far : goal.returns-clause-so_far
returns-clause-so_far c asked ran made rest so spare is = copiers_behind asked ran (so_far_goes asked ran so) spare made rest is

pub returns-clause-legal : goal.returns-clause-legal
returns-clause-legal c asked ran made rest legal is = copiers_behind asked ran (legal_goes asked ran legal) (legal_spares asked ran legal) made rest is
