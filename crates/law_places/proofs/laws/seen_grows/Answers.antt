use Rattle.law_places.proofs.Seen.{grows}
use Rattle.law_places.proofs.laws.seen_grows.Goals as goal

pub returns : goal.returns
returns c front later door le = grows front later door le
