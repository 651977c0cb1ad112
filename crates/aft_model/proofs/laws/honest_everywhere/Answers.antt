use Rattle.aft_model.proofs.Honesty.{honest_about}
use Rattle.aft_model.proofs.laws.honest_everywhere.Goals as goal

pub returns : goal.returns
returns c = honest_about
