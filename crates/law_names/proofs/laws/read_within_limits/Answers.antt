use Rattle.aft_records.proofs.Found.{commit_found, record_found, version_found, marker_found}
use Rattle.law_names.proofs.Tests.{bytes_are}
use Rattle.law_names.proofs.laws.read_within_limits.Goals as goal

pub returns-clause-commit : goal.returns-clause-commit
returns-clause-commit c bytes x made e = commit_found bytes x (bytes_are bytes made) e

pub returns-clause-whole : goal.returns-clause-whole
returns-clause-whole c bytes x made e = record_found bytes x (bytes_are bytes made) e

pub returns-clause-version : goal.returns-clause-version
returns-clause-version c bytes x made e = version_found bytes x (bytes_are bytes made) e

pub returns-clause-marker : goal.returns-clause-marker
returns-clause-marker c bytes x made e = marker_found bytes x (bytes_are bytes made) e
