use Rattle.law_promise.proofs.Doors.{lawful_door}
use Rattle.law_runs.proofs.LegalRuns.{legal_goes, so_far_goes}
use Rattle.law_orphans.proofs.Rounds.{orphans_alone}
use Rattle.law_orphans.proofs.laws.rounds_delete_orphans.Goals as goal

pub returns-clause-so_far : goal.returns-clause-so_far
returns-clause-so_far x asked ran runs honest = (let goes = so_far_goes asked ran runs in orphans_alone asked ran goes (lawful_door asked ran goes honest))

pub returns-clause-legal : goal.returns-clause-legal
returns-clause-legal x asked ran legal honest = (let goes = legal_goes asked ran legal in orphans_alone asked ran goes (lawful_door asked ran goes honest))
