use Rattle.law_places.proofs.SeenSights.{sight_grows}
use Rattle.law_places.proofs.laws.sights_grow.Goals as goal

pub returns : goal.returns
returns c node by before act answer seen more = sight_grows seen more by node before act answer
