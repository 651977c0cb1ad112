use Rattle.law_reads.proofs.Blockers.{blocked_rightly, blocked_versions}
use Rattle.law_reads.proofs.laws.blockers_are_named.Goals as goal

pub returns-clause-versions : goal.returns-clause-versions
returns-clause-versions c node capacity inc a key blocked history legal real serve there none = blocked_versions node capacity inc history legal real serve a there key blocked none

pub returns-clause-blocking : goal.returns-clause-blocking
returns-clause-blocking c node capacity inc a key blocked history legal real serve there none = blocked_rightly node capacity inc history legal real serve a there key blocked none
