use Rattle.law_runs.proofs.LegalRuns.{so_far_goes}
use Rattle.law_promise.proofs.Undamaged.{tells_none, undamaged}
use Rattle.law_promise.proofs.laws.ids_are_undamaged.Goals as goal

pub returns-clause-shown : goal.returns-clause-shown
returns-clause-shown c asked ran line so honest listed looks = undamaged asked ran (so_far_goes asked ran so) honest line listed looks

pub returns-clause-told : goal.returns-clause-told
returns-clause-told c asked ran line name legal honest listed looks among = tells_none asked ran line legal honest listed looks name among
