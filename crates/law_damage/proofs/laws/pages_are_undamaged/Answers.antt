use Rattle.law_damage.proofs.Undamaged.{tells_none, undamaged}
use Rattle.law_damage.proofs.laws.pages_are_undamaged.Goals as goal

pub returns-clause-shown : goal.returns-clause-shown
returns-clause-shown c asked ran line legal honest listed looks = undamaged asked ran legal honest line listed looks

pub returns-clause-told : goal.returns-clause-told
returns-clause-told c asked ran line name legal honest listed looks among = tells_none asked ran legal honest line listed looks name among
