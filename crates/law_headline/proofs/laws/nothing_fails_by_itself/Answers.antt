use Rattle.law_losses.proofs.NodeDowns.{down_by_crash}
use Rattle.law_headline.proofs.Failing.{tells_none}
use Rattle.law_headline.proofs.laws.nothing_fails_by_itself.Goals as goal

pub returns-clause-fault : goal.returns-clause-fault
returns-clause-fault x asked ran line reply legal honest unfailed listed among = tells_none asked ran legal honest unfailed line listed reply among

pub returns-clause-down : goal.returns-clause-down
returns-clause-down x asked ran line node inc legal listed real among = down_by_crash asked ran legal line listed node inc real among
