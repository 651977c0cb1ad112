use Rattle.law_grows.proofs.Views.{view_same}
use Rattle.law_grows.proofs.laws.views_stay.Goals as goal

pub returns : goal.returns
returns c asked ran more line behind low = view_same line ran more behind asked low
