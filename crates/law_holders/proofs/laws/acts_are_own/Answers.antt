use Rattle.law_holders.proofs.Own.{acts_own}
use Rattle.law_holders.proofs.laws.acts_are_own.Goals as goal

pub returns : goal.returns
returns c command nodes ends position next place act is leads = acts_own command nodes ends position next place act is leads
