use Rattle.law_accounts.proofs.Runs.{account_runs}
use Rattle.law_accounts.proofs.laws.accounts_are_runs.Goals as goal

pub returns : goal.returns
returns c asked ran stand account = account_runs asked ran stand account
