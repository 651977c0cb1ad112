use Rattle.std.proofs.lemmas.List.Elements.{All-contains_itself}
use Rattle.aft_keeper.proofs.mem_keeper.MemKeeper.contents.Goals as goal

pub returns-in-Some-clause-each : goal.returns-in-Some-clause-each
returns-in-Some-clause-each c = rw (c.as_slice.ensures, c.in-Some.is) (All-contains_itself _)

pub returns-in-Some-clause-no_others : goal.returns-in-Some-clause-no_others
returns-in-Some-clause-no_others c = rw (c.as_slice.ensures, c.in-Some.is) (All-contains_itself _)

pub returns-in-None-clause-each : goal.returns-in-None-clause-each
returns-in-None-clause-each c = rw c.in-None.is c.as_slice-in-None.ensures.each

pub returns-in-None-clause-no_others : goal.returns-in-None-clause-no_others
returns-in-None-clause-no_others c = rw c.in-None.is c.as_slice-in-None.ensures.no_others
