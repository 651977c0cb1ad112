use Rattle.law_accounts.proofs.Turned.{turned_there, turns_turned}
use Rattle.law_accounts.proofs.laws.turns_follow.Goals as goal

pub returns : goal.returns
returns c = record {
  in_order = turns_turned;
  at_one_node = turned_there;
}
