use Rattle.law_damage.proofs.Judged.{tells_none, undamaged}
use Rattle.law_damage.proofs.laws.settlers_are_undamaged.Goals as goal

pub returns-clause-shown : goal.returns-clause-shown
returns-clause-shown x asked ran line aborts legal honest listed first order = undamaged asked ran legal honest line listed first aborts order

pub returns-clause-told : goal.returns-clause-told
returns-clause-told x asked ran line aborts name legal honest listed first order among = tells_none asked ran legal honest line listed first aborts order name among
