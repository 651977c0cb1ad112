use Rattle.law_effects.proofs.Proves.{committed_proven, committed_proves, marked_proven, marked_proves}
use Rattle.law_effects.proofs.laws.proven_by_effect.Goals as goal

pub returns-clause-committed : goal.returns-clause-committed
returns-clause-committed c x entry = committed_proven x entry

pub returns-clause-commits : goal.returns-clause-commits
returns-clause-commits c x bytes entry = committed_proves x bytes entry

pub returns-clause-marked : goal.returns-clause-marked
returns-clause-marked c x entry = marked_proven x entry

pub returns-clause-marks : goal.returns-clause-marks
returns-clause-marks c x bytes entry = marked_proves x bytes entry
