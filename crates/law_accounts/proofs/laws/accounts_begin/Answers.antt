use Rattle.law_accounts.proofs.Begun.{account_begins}
use Rattle.law_accounts.proofs.laws.accounts_begin.Goals as goal

pub returns : goal.returns
returns c asked ran script asks opened = account_begins asked ran script asks opened
