use Rattle.law_accounts.proofs.ComingUp.{fetcher_up}
use Rattle.law_accounts.proofs.laws.fetchers_have_come_up.Goals as goal

pub returns : goal.returns
returns c asked ran stand line fetch account listed get at = fetcher_up asked ran stand line fetch account listed get at
