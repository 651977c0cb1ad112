use Rattle.law_reads.proofs.Served.{atomic, none_known_zero, once, read_written}
use Rattle.law_reads.proofs.laws.keys_are_read_once.Goals as goal

pub returns-clause-once : goal.returns-clause-once
returns-clause-once c node capacity inc a history legal real serve = once node capacity inc history legal real serve a

pub returns-clause-written : goal.returns-clause-written
returns-clause-written c node capacity inc a key id history legal real serve there = read_written node capacity inc history legal real serve a there key id

pub returns-clause-atomic : goal.returns-clause-atomic
returns-clause-atomic c node capacity inc a history legal real serve there = atomic node capacity inc history legal real serve a there

pub returns-clause-unused : goal.returns-clause-unused
returns-clause-unused c = none_known_zero
