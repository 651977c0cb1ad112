use Rattle.aft_model.proofs.Newest.{newest_stands}
use Rattle.aft_model.proofs.node_laws.newest_is_not_superseded.Goals as goal

pub returns : goal.returns
returns c key newest commits = newest_stands key newest commits
