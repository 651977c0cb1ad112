use Rattle.law_kept.proofs.Gives.{one_commit}
use Rattle.law_kept.proofs.laws.commits_once_kept.Goals as goal

pub returns : goal.returns
returns c x d history kept of_x of_d same = one_commit x d history kept of_x of_d same
