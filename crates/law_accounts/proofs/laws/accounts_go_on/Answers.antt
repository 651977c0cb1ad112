use Rattle.law_accounts.proofs.GoesOn.{goes_on}
use Rattle.law_accounts.proofs.laws.accounts_go_on.Goals as goal

pub returns : goal.returns
returns c asked ran stand later line added account may by follows ordered none behind = goes_on asked ran stand later line added account may by follows ordered none behind
