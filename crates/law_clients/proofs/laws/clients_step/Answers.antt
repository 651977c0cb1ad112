use Rattle.law_clients.proofs.Goes.{steps_on}
use Rattle.law_clients.proofs.Over.{crowd_over}
use Rattle.law_clients.proofs.laws.clients_step.Goals as goal

pub returns-clause-on : goal.returns-clause-on
returns-clause-on c asked ran stand seats line hold trail node act answer none all crowd busy is_node legal promises = steps_on asked ran stand seats line hold trail crowd busy none all node act answer is_node legal promises

pub returns-clause-over : goal.returns-clause-over
returns-clause-over c asked ran stand seats line hold trail node act answer order script none ordered all crowd busy is_node legal promises = crowd_over asked ran stand seats line hold trail node act answer script order ordered none all crowd busy is_node legal promises
