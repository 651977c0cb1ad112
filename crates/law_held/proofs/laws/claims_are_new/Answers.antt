use Rattle.law_held.proofs.Stand.{claims_new}
use Rattle.law_held.proofs.laws.claims_are_new.Goals as goal

pub returns-clause-so_far : goal.returns-clause-so_far
returns-clause-so_far c asked ran so = claims_new ran.trace.door so.door

pub returns-clause-legal : goal.returns-clause-legal
returns-clause-legal c asked ran legal = claims_new ran.trace.door legal.door
