use Rattle.law_names.proofs.Proven.{committed_limits, marked_limits}
use Rattle.law_names.proofs.laws.committed_within_limits.Goals as goal

pub returns-clause-committed : goal.returns-clause-committed
returns-clause-committed c x history made proven = committed_limits x history made proven

pub returns-clause-marked : goal.returns-clause-marked
returns-clause-marked c x history made proven = marked_limits x history made proven
