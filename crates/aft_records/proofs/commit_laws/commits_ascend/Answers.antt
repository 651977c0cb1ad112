use Rattle.aft_records.proofs.CommitOrder.{first_ascends, with_ascends, without_ascends}
use Rattle.aft_records.proofs.commit_laws.commits_ascend.Goals as goal

pub returns-clause-first : goal.returns-clause-first
returns-clause-first c = first_ascends

pub returns-clause-with : goal.returns-clause-with
returns-clause-with c = with_ascends

pub returns-clause-without : goal.returns-clause-without
returns-clause-without c = without_ascends
