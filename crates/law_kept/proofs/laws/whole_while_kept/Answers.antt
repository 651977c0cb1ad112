use Rattle.law_kept.proofs.Gives.{whole_commit}
use Rattle.law_kept.proofs.laws.whole_while_kept.Goals as goal

pub returns : goal.returns
returns c x history kept is newest = whole_commit x history kept is newest
