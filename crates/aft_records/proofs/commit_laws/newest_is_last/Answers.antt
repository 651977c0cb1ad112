use Rattle.aft_records.specs.Superseded.{wrote}
use Rattle.aft_records.proofs.CommitOrder.{filtered_ascends, greatest_last}
use Rattle.aft_records.proofs.commit_laws.newest_is_last.Goals as goal

pub returns-clause-versions : goal.returns-clause-versions
returns-clause-versions c key commits up = filtered_ascends (wrote key) commits up

pub returns-clause-greatest : goal.returns-clause-greatest
returns-clause-greatest c = greatest_last
