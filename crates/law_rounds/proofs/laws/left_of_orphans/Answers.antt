use Rattle.law_rounds.proofs.Orphans.{in_round_leads, round_scan}
use Rattle.law_rounds.proofs.laws.left_of_orphans.Goals as goal

pub returns-clause-scanning : goal.returns-clause-scanning
returns-clause-scanning c key nodes after listed ends line up = round_scan key nodes ends up after listed line

pub returns-clause-standing : goal.returns-clause-standing
returns-clause-standing c key nodes desk standings ends line up = in_round_leads key nodes ends up desk standings line
