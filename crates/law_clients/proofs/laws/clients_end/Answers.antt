use Rattle.law_accounts.proofs.Ends.{account_ends}
use Rattle.law_clients.proofs.laws.clients_end.Goals as goal

pub returns : goal.returns
returns c asked ran stand seats crowd over = account_ends asked ran stand crowd.account over
