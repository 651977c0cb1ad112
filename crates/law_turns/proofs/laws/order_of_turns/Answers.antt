use Rattle.law_turns.proofs.Lists.{in_order}
use Rattle.law_turns.proofs.laws.order_of_turns.Goals as goal

pub returns : goal.returns
returns c by trace line entries up ties quiet = in_order by trace line entries ties up quiet
