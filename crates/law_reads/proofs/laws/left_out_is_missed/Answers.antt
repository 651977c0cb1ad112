use Rattle.law_reads.proofs.Boots.{each_once, first_lacks, first_supersedes, known_at_boot, missed_from_boot}
use Rattle.law_reads.proofs.laws.left_out_is_missed.Goals as goal

pub returns-clause-first : goal.returns-clause-first
returns-clause-first c = known_at_boot

pub returns-clause-unknown : goal.returns-clause-unknown
returns-clause-unknown c = first_lacks

pub returns-clause-superseded : goal.returns-clause-superseded
returns-clause-superseded c t commits differ = first_supersedes commits (each_once commits differ) t

pub returns-clause-missed : goal.returns-clause-missed
returns-clause-missed c = missed_from_boot
