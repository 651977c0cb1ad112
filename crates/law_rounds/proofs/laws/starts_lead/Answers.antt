use Rattle.law_rounds.proofs.Starts.{start_led}
use Rattle.law_rounds.proofs.laws.starts_lead.Goals as goal

pub returns : goal.returns
returns c node nodes ends line = start_led node nodes ends line
