use Rattle.law_copies.proofs.Undamaged.{tells_none, undamaged}
use Rattle.law_copies.proofs.laws.copies_are_undamaged.Goals as goal

pub returns-clause-shown : goal.returns-clause-shown
returns-clause-shown x asked ran line legal honest listed order = undamaged asked ran legal honest line listed order

pub returns-clause-told : goal.returns-clause-told
returns-clause-told x asked ran line name legal honest listed order among = tells_none asked ran legal honest line listed order name among
