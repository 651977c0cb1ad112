use Rattle.law_reads.proofs.Boots.{given_up_for_good, given_up_unknown}
use Rattle.law_reads.proofs.laws.given_up_is_missed.Goals as goal

pub returns-clause-unknown : goal.returns-clause-unknown
returns-clause-unknown c = given_up_unknown

pub returns-clause-missed : goal.returns-clause-missed
returns-clause-missed c = given_up_for_good
