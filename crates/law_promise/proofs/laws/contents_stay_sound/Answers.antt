use Rattle.law_runs.proofs.LegalRuns.{legal_goes, so_far_goes}
use Rattle.law_promise.proofs.Doors.{sound}
use Rattle.law_promise.proofs.laws.contents_stay_sound.Goals as goal

pub returns-clause-so_far : goal.returns-clause-so_far
returns-clause-so_far c asked ran at_first now held front back so contents along is opened along_front = sound asked ran (so_far_goes asked ran so) at_first contents now held front back along is opened along_front

pub returns-clause-legal : goal.returns-clause-legal
returns-clause-legal c asked ran at_first now held front back legal contents along is opened along_front = sound asked ran (legal_goes asked ran legal) at_first contents now held front back along is opened along_front
