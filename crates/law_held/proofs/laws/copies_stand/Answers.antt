use Rattle.law_runs.proofs.LegalRuns.{so_far_goes}
use Rattle.law_held.proofs.CopiersEnd.{copies_stand, legal_none, legal_spares}
use Rattle.law_held.proofs.laws.copies_stand.Goals as goal

pub returns-clause-so_far : goal.returns-clause-so_far
returns-clause-so_far c asked ran so differ spare = copies_stand asked ran (so_far_goes asked ran so) spare differ

pub returns-clause-spared : goal.returns-clause-spared
returns-clause-spared c = legal_spares

pub returns-clause-none_left : goal.returns-clause-none_left
returns-clause-none_left c = legal_none
