use Rattle.law_runs.proofs.LegalRuns.{legal_goes, so_far_goes}
use Rattle.law_held.proofs.DeskHeld.{desk_held_over, desk_held_so_far, legal_over}
use Rattle.law_held.proofs.laws.desk_is_held.Goals as goal

pub returns-clause-so_far : goal.returns-clause-so_far
returns-clause-so_far c asked ran so differ = desk_held_so_far asked ran (so_far_goes asked ran so) differ

pub returns-clause-legal : goal.returns-clause-legal
returns-clause-legal c asked ran legal = desk_held_over asked ran (legal_goes asked ran legal) (legal_over asked ran legal)
