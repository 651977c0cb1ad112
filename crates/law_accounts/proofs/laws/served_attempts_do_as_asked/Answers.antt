use Rattle.law_accounts.proofs.Served.{moved_while_served}
use Rattle.law_accounts.proofs.laws.served_attempts_do_as_asked.Goals as goal

pub returns : goal.returns
returns c asked ran stand line position a account listed of is at serve = moved_while_served asked ran stand account line listed of position a is at serve
