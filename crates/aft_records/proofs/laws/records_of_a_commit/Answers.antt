use Rattle.aft_records.proofs.Written.{spelled_written, commit_of_record_written}
use Rattle.aft_records.proofs.laws.records_of_a_commit.Goals as goal

pub returns-clause-spelled : goal.returns-clause-spelled
returns-clause-spelled c = spelled_written

pub returns-clause-whole : goal.returns-clause-whole
returns-clause-whole c = commit_of_record_written
