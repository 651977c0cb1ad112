use Rattle.law_clients.proofs.Goes.{acts_on}
use Rattle.law_clients.proofs.laws.clients_act.Goals as goal

pub returns : goal.returns
returns c asked ran stand seats line hold trail act none crowd busy legal bytes promises = acts_on asked ran stand seats line hold trail crowd busy none act legal bytes promises
