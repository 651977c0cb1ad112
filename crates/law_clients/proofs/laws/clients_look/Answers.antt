use Rattle.law_clients.proofs.Goes.{looks_on}
use Rattle.law_clients.proofs.laws.clients_look.Goals as goal

pub returns : goal.returns
returns c asked ran stand seats line hold trail crowd busy = looks_on asked ran stand seats line hold trail crowd busy
