use Rattle.law_accounts.proofs.Holds.{before_next, first_holds, held_next}
use Rattle.law_accounts.proofs.laws.holds_follow.Goals as goal

pub returns : goal.returns
returns c = record {
  at_first = first_holds;
  before_next = λ asked line next script asks comes. before_next asked script asks line next comes;
  at_next = λ asked trace line next script asks comes. held_next asked script asks line next comes trace;
}
