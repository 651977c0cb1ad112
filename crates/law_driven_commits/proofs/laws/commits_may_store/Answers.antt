use Rattle.law_driven_commits.proofs.Puts.{stores_within}
use Rattle.law_driven_commits.proofs.laws.commits_may_store.Goals as goal

pub returns : goal.returns
returns c asked ran stand line hold trail finish clock driven of made puts = stores_within asked ran stand line hold trail finish driven of clock puts made
