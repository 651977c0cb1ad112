use Rattle.law_contents.proofs.Held.{possible_now}
use Rattle.law_contents.proofs.laws.contents_are_possible.Goals as goal

pub returns : goal.returns
returns c name at_first now history contents along = possible_now at_first now history contents along name
