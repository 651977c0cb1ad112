use Rattle.aft_model.proofs.Choices.{never_blocked}
use Rattle.aft_model.proofs.node_laws.read_commit_fits.Goals as goal

pub returns : goal.returns
returns c = never_blocked
