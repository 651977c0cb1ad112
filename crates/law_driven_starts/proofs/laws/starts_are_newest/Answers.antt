use Rattle.law_driven_starts.proofs.Newest.{starts_newest}
use Rattle.law_driven_starts.proofs.laws.starts_are_newest.Goals as goal

pub returns : goal.returns
returns c asked ran stand account = starts_newest asked ran stand account
