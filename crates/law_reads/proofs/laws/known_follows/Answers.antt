use Rattle.law_reads.proofs.Follows.{cache_more, known_more, unannounced_more}
use Rattle.law_reads.proofs.laws.known_follows.Goals as goal

pub returns-clause-known : goal.returns-clause-known
returns-clause-known c = known_more

pub returns-clause-kept : goal.returns-clause-kept
returns-clause-kept c = cache_more

pub returns-clause-unannounced : goal.returns-clause-unannounced
returns-clause-unannounced c = unannounced_more
