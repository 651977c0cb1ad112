use Rattle.law_runs.proofs.LegalRuns.{legal_goes, so_far_goes}
use Rattle.law_held.proofs.Stand.{turns_find}
use Rattle.law_held.proofs.laws.turns_find.Goals as goal

pub returns-clause-so_far : goal.returns-clause-so_far
returns-clause-so_far c asked ran so differ = turns_find asked ran (so_far_goes asked ran so) differ

pub returns-clause-legal : goal.returns-clause-legal
returns-clause-legal c asked ran legal differ = turns_find asked ran (legal_goes asked ran legal) differ
