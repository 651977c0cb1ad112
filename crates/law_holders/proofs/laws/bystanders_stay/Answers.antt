use Rattle.law_holders.proofs.Bystanders.{bystander}
use Rattle.law_holders.proofs.laws.bystanders_stay.Goals as goal

pub returns : goal.returns
returns c command act who uuid before other made of_node = bystander who uuid before of_node command act other made
