use Rattle.law_driven_starts.proofs.Ends.{own_boots}
use Rattle.law_driven_starts.proofs.laws.own_boots_run.Goals as goal

pub returns : goal.returns
returns c node capacity inc by history legal ends opens = own_boots node capacity by inc history legal ends opens
