use Rattle.aft_model.proofs.CommitsOnce.{commits_once, no_more_puts}
use Rattle.aft_model.proofs.laws.id_commits_once.Goals as goal

pub returns-clause-one_commit : goal.returns-clause-one_commit
returns-clause-one_commit c = commits_once

pub returns-clause-no_more_puts : goal.returns-clause-no_more_puts
returns-clause-no_more_puts c = no_more_puts
