use Rattle.law_clients.proofs.Begins.{crowd_begins}
use Rattle.law_clients.proofs.laws.clients_begin.Goals as goal

pub returns : goal.returns
returns c asked ran stand seats line hold none all crowd idle next comes = crowd_begins asked ran stand seats line hold none all crowd idle next comes
