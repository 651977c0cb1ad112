use Rattle.law_runs.proofs.LegalRuns.{so_far_goes}
use Rattle.law_held.proofs.StartsEnd.{starts_stand}
use Rattle.law_held.proofs.laws.starts_stand.Goals as goal

pub returns : goal.returns
returns c asked ran so = starts_stand asked ran (so_far_goes asked ran so)
