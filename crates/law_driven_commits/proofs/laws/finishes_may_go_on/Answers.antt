use Rattle.law_driven_commits.proofs.Calls.{may_call}
use Rattle.law_driven_commits.proofs.Closes.{closes}
use Rattle.law_driven_commits.proofs.Ends.{ends}
use Rattle.law_driven_commits.proofs.Puts.{may_put_so}
use Rattle.law_driven_commits.proofs.laws.finishes_may_go_on.Goals as goal

pub returns-clause-closes : goal.returns-clause-closes
returns-clause-closes c asked ran stand line hold trail finish clock node driven of made is = closes asked ran stand line hold trail finish driven of node is clock made

pub returns-clause-ends : goal.returns-clause-ends
returns-clause-ends c asked ran stand line hold trail finish clock node driven of made is = ends asked ran stand line hold trail finish driven of node is clock made

pub returns-clause-calls : goal.returns-clause-calls
returns-clause-calls c asked ran stand line hold trail finish clock driven of made = may_call asked ran stand line hold trail finish driven of clock made

pub returns-clause-puts : goal.returns-clause-puts
returns-clause-puts c asked ran stand line hold trail finish clock driven of made = may_put_so asked ran stand line hold trail finish driven of clock made
