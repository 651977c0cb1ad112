use Rattle.law_boots.proofs.Atomic.{all_atomic}
use Rattle.law_boots.proofs.Promised.{atomic_sets}
use Rattle.law_boots.proofs.laws.reads_are_atomic.Goals as goal

pub returns-clause-each : goal.returns-clause-each
returns-clause-each c node capacity a door history lawful beside = all_atomic node capacity door lawful history beside a

pub returns-clause-nodes : goal.returns-clause-nodes
returns-clause-nodes c first capacity trace lawful legal = atomic_sets first capacity trace legal lawful
