use Rattle.law_runs.proofs.LegalRuns.{legal_goes, so_far_goes}
use Rattle.law_gets.proofs.Values.{values_repeat}
use Rattle.law_gets.proofs.laws.own_puts_and_repeats.Goals as goal

pub returns-clause-so_far : goal.returns-clause-so_far
returns-clause-so_far c asked ran so honest = values_repeat asked ran (so_far_goes asked ran so) honest

pub returns-clause-legal : goal.returns-clause-legal
returns-clause-legal c asked ran legal honest = values_repeat asked ran (legal_goes asked ran legal) honest
