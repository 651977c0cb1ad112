use Rattle.law_names.proofs.Differ.{spelled, record_read, marker_read, version_read}
use Rattle.law_names.proofs.laws.names_are_spelled.Goals as goal

pub returns-clause-spelled : goal.returns-clause-spelled
returns-clause-spelled c text name e = spelled text name e

pub returns-clause-record : goal.returns-clause-record
returns-clause-record c u v iu e = record_read u v iu e

pub returns-clause-marker : goal.returns-clause-marker
returns-clause-marker c u v iu e = marker_read u v iu e

pub returns-clause-version : goal.returns-clause-version
returns-clause-version c key other id its ik wi e = version_read key other id its ik wi e
