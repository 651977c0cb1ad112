use Rattle.aft_model.proofs.Places.{place_of_claim, place_stays}
use Rattle.aft_model.proofs.laws.claims_have_places.Goals as goal

pub returns-clause-of_a_claim : goal.returns-clause-of_a_claim
returns-clause-of_a_claim c = place_of_claim

pub returns-clause-stays : goal.returns-clause-stays
returns-clause-stays c = place_stays
