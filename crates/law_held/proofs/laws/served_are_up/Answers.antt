use Rattle.law_runs.proofs.LegalRuns.{legal_goes, so_far_goes}
use Rattle.law_held.proofs.Serving.{serves_up}
use Rattle.law_held.proofs.laws.served_are_up.Goals as goal

pub returns-clause-so_far : goal.returns-clause-so_far
returns-clause-so_far c asked ran made rest node inc so is serve = serves_up asked ran (so_far_goes asked ran so) made rest is node inc serve

pub returns-clause-legal : goal.returns-clause-legal
returns-clause-legal c asked ran made rest node inc legal is serve = serves_up asked ran (legal_goes asked ran legal) made rest is node inc serve
