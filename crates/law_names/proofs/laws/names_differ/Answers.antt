use Rattle.law_names.proofs.Differ.{records, markers, versions}
use Rattle.law_names.proofs.laws.names_differ.Goals as goal

pub returns-clause-records : goal.returns-clause-records
returns-clause-records c u v iu iv e = records u v iu iv e

pub returns-clause-markers : goal.returns-clause-markers
returns-clause-markers c u v iu iv e = markers u v iu iv e

pub returns-clause-versions : goal.returns-clause-versions
returns-clause-versions c key other id its ik io wi ws e = versions key other id its ik io wi ws e
