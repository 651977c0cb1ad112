use Rattle.std.proofs.Common.{refl, [], ◌∷◌}
use Rattle.law_kept.proofs.Always.{lawful_begins}
use Rattle.law_kept.proofs.Gives.{committed_among}
use Rattle.law_whole.proofs.Throughout.{its_uuid}
use Rattle.law_whole.proofs.Values.{shows_version, untried_unmarked, value_stays, version_is}
use Rattle.law_whole.proofs.laws.values_are_held.Goals as goal

pub returns-clause-there : goal.returns-clause-there
returns-clause-there c x key history lawful opened is unmarked among = version_is x history lawful opened is unmarked key among

pub returns-clause-untried : goal.returns-clause-untried
returns-clause-untried c x history lawful opened is untried = untried_unmarked x history lawful opened is untried

pub returns-clause-shown : goal.returns-clause-shown
returns-clause-shown c x key history entry outcome lawful opened is unmarked among shows =
    shows_version x history (lawful_begins history (entry ∷ []) lawful) opened is entry lawful.honest outcome unmarked key among shows

pub returns-clause-stay : goal.returns-clause-stay
returns-clause-stay c x key history more lawful opened is among =
    let in_it = committed_among x history is in
    value_stays x.id.uuid (its_uuid history (lawful_begins history more lawful) x in_it) x key among history more opened lawful (in_it, refl)
