use Rattle.aft_model.proofs.Choices.{never_blocked}
use Rattle.aft_select.proofs.laws.read_commit_never_blocked.Goals as goal

pub returns : goal.returns
returns c = never_blocked
