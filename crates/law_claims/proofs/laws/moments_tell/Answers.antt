use Rattle.law_claims.proofs.Holds.{moved_holds, none_holds, resting_holds}
use Rattle.law_claims.proofs.laws.moments_tell.Goals as goal

pub returns-clause-resting : goal.returns-clause-resting
returns-clause-resting c scene a legal keeps = resting_holds scene legal keeps a

pub returns-clause-moved : goal.returns-clause-moved
returns-clause-moved c scene by a legal keeps = moved_holds scene legal keeps by a

pub returns-clause-none : goal.returns-clause-none
returns-clause-none c scene who uuid legal keeps = none_holds scene legal keeps who uuid
