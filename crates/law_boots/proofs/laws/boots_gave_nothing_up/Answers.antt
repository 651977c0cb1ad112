use Rattle.law_boots.proofs.Unasked.{nothing_given_up}
use Rattle.law_boots.proofs.laws.boots_gave_nothing_up.Goals as goal

pub returns : goal.returns
returns c node capacity inc id commits door history more entry beside backs is = nothing_given_up node capacity door inc commits history more entry beside is backs id
