use Rattle.law_grows.proofs.Views.{ends_same, kept_same}
use Rattle.law_grows.proofs.laws.ends_stay.Goals as goal

pub returns-clause-seen : goal.returns-clause-seen
returns-clause-seen c view more = ends_same view more

pub returns-clause-kept : goal.returns-clause-kept
returns-clause-kept c view more = kept_same view more
