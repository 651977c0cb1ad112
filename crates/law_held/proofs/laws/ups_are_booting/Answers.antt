use Rattle.law_runs.proofs.LegalRuns.{legal_goes, so_far_goes}
use Rattle.law_held.proofs.Starts.{ups_boot}
use Rattle.law_held.proofs.laws.ups_are_booting.Goals as goal

pub returns-clause-so_far : goal.returns-clause-so_far
returns-clause-so_far c asked ran made rest node inc so is of up = ups_boot asked ran (so_far_goes asked ran so) made rest is node inc of up

pub returns-clause-legal : goal.returns-clause-legal
returns-clause-legal c asked ran made rest node inc legal is of up = ups_boot asked ran (legal_goes asked ran legal) made rest is node inc of up
