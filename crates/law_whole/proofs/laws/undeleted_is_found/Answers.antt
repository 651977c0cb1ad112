use Rattle.std.proofs.Common.{[], ◌∷◌, refl}
use Rattle.std.proofs.lemmas.Bool.{false_from_ne_true}
use Rattle.aft_model.specs.Evidence.{shows_absent}
use Rattle.aft_model.specs.Readings.{record_name}
use Rattle.law_kept.proofs.Always.{lawful_begins}
use Rattle.law_kept.proofs.Gives.{committed_among}
use Rattle.law_whole.proofs.There.{never_shown_absent}
use Rattle.law_whole.proofs.Throughout.{its_uuid}
use Rattle.law_whole.proofs.laws.undeleted_is_found.Goals as goal

pub returns : goal.returns
returns c x history entry lawful opened is untouched =
    let among = committed_among x history is in
    false_from_ne_true (shows_absent (record_name x.id.uuid) entry)
    (λ absent. never_shown_absent x.id.uuid (its_uuid history (lawful_begins history (entry ∷ []) lawful) x among) history entry opened lawful x (among, refl) untouched absent)
