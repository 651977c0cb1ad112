use Rattle.law_whole.proofs.Promised.{once, whole}
use Rattle.law_whole.proofs.laws.promised_of_the_door.Goals as goal

pub returns-clause-once : goal.returns-clause-once
returns-clause-once c trace lawful = once trace lawful

pub returns-clause-whole : goal.returns-clause-whole
returns-clause-whole c first capacity trace lawful legal = whole first capacity trace lawful legal
