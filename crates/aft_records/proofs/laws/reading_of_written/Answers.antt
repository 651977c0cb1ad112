use Rattle.std.proofs.Common.{◌∙◌}
use Rattle.aft_records.specs.Stored.{marker_time}
use Rattle.aft_records.proofs.Written.{commit_written, record_written, version_written, marker_written, timely_is}
use Rattle.aft_records.proofs.laws.reading_of_written.Goals as goal

pub returns-clause-commit : goal.returns-clause-commit
returns-clause-commit c = λ c is. commit_written c is.0 ∙ timely_is c.id.time c is.1

pub returns-clause-whole : goal.returns-clause-whole
returns-clause-whole c = λ r is. record_written r is.0 ∙ timely_is r.commit.id.time r is.1

pub returns-clause-version : goal.returns-clause-version
returns-clause-version c = λ v is. version_written v is.0 ∙ timely_is v.id.time v is.1

pub returns-clause-marker : goal.returns-clause-marker
returns-clause-marker c = λ m is. marker_written m is.0 ∙ timely_is (marker_time m) m is.1
