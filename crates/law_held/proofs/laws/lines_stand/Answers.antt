use Rattle.law_runs.proofs.LegalRuns.{so_far_goes}
use Rattle.law_held.proofs.Stand.{lines_stand}
use Rattle.law_held.proofs.StandOthers.{gets_stand, rounds_stand}
use Rattle.law_held.proofs.laws.lines_stand.Goals as goal

pub returns-clause-movers : goal.returns-clause-movers
returns-clause-movers c asked ran so differ = lines_stand asked ran (so_far_goes asked ran so) differ

pub returns-clause-gets : goal.returns-clause-gets
returns-clause-gets c asked ran so differ = gets_stand asked ran (so_far_goes asked ran so) differ

pub returns-clause-rounds : goal.returns-clause-rounds
returns-clause-rounds c asked ran so differ = rounds_stand asked ran (so_far_goes asked ran so) differ
