use Rattle.law_clients.proofs.Sits.{crowd_sits}
use Rattle.law_clients.proofs.laws.clients_sit.Goals as goal

pub returns : goal.returns
returns c asked ran order script none ordered opened = crowd_sits asked ran script order none ordered opened
