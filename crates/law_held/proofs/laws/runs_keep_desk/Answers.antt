use Rattle.law_runs.proofs.LegalRuns.{legal_goes, so_far_goes}
use Rattle.law_held.proofs.DeskRuns.{lies_behind}
use Rattle.law_held.proofs.laws.runs_keep_desk.Goals as goal

pub returns-clause-so_far : goal.returns-clause-so_far
returns-clause-so_far c asked ran made rest uuid so is = lies_behind asked ran (so_far_goes asked ran so) made rest is uuid

pub returns-clause-legal : goal.returns-clause-legal
returns-clause-legal c asked ran made rest uuid legal is = lies_behind asked ran (legal_goes asked ran legal) made rest is uuid
