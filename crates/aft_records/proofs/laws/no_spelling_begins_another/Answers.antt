use Rattle.aft_records.proofs.Written.{commits_apart, records_apart, versions_apart, markers_apart}
use Rattle.aft_records.proofs.laws.no_spelling_begins_another.Goals as goal

pub returns-clause-commit : goal.returns-clause-commit
returns-clause-commit c = commits_apart

pub returns-clause-whole : goal.returns-clause-whole
returns-clause-whole c = records_apart

pub returns-clause-version : goal.returns-clause-version
returns-clause-version c = versions_apart

pub returns-clause-marker : goal.returns-clause-marker
returns-clause-marker c = markers_apart
