use Rattle.law_clients.proofs.Words.{words_first}
use Rattle.law_clients.proofs.laws.words_begin.Goals as goal

pub returns : goal.returns
returns c asked order none ordered = words_first asked order none ordered
