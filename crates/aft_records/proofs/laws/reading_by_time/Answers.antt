use Rattle.aft_records.proofs.Written.{commit_written, record_written, version_written, marker_written}
use Rattle.aft_records.proofs.laws.reading_by_time.Goals as goal

pub returns-clause-commit : goal.returns-clause-commit
returns-clause-commit c = commit_written

pub returns-clause-whole : goal.returns-clause-whole
returns-clause-whole c = record_written

pub returns-clause-version : goal.returns-clause-version
returns-clause-version c = version_written

pub returns-clause-marker : goal.returns-clause-marker
returns-clause-marker c = marker_written
