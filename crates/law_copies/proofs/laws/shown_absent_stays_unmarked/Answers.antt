use Rattle.law_kept.proofs.Always.{lawful_begins}
use Rattle.law_kept.proofs.Gives.{committed_among}
use Rattle.law_whole.proofs.Throughout.{its_uuid}
use Rattle.std.proofs.Common.{◌∷◌}
use Rattle.law_copies.proofs.Stays.{absent_stays}
use Rattle.law_copies.proofs.laws.shown_absent_stays_unmarked.Goals as goal

pub returns : goal.returns
returns x c history entry more lawful opened is absent un unretired =
    let among = committed_among c history is in
    absent_stays c (its_uuid history (lawful_begins history (entry ∷ more) lawful) c among) history entry more opened lawful among absent un unretired
