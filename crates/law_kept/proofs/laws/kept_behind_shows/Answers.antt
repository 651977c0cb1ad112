use Rattle.law_kept.proofs.Seen.{kept_behind_sight}
use Rattle.law_kept.proofs.laws.kept_behind_shows.Goals as goal

pub returns : goal.returns
returns c uuid history entry comes kept kind = kept_behind_sight uuid history entry comes kept kind
