use Rattle.law_accounts.proofs.Ends.{account_ends}
use Rattle.law_accounts.proofs.laws.accounts_end.Goals as goal

pub returns : goal.returns
returns c asked ran stand account done = account_ends asked ran stand account done
