use Rattle.law_promise.proofs.Doors.{lawful_door}
use Rattle.law_runs.proofs.LegalRuns.{legal_goes, so_far_goes}
use Rattle.law_orphans.proofs.Deleted.{all_orphans}
use Rattle.law_orphans.proofs.laws.orphans_are_deleted.Goals as goal

pub returns-clause-door : goal.returns-clause-door
returns-clause-door x = all_orphans

pub returns-clause-so_far : goal.returns-clause-so_far
returns-clause-so_far x asked ran runs honest = all_orphans _ (lawful_door asked ran (so_far_goes asked ran runs) honest)

pub returns-clause-legal : goal.returns-clause-legal
returns-clause-legal x asked ran legal honest = all_orphans _ (lawful_door asked ran (legal_goes asked ran legal) honest)
