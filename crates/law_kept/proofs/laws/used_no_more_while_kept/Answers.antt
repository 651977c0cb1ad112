use Rattle.law_kept.proofs.UsedNoMore.{puts_unused}
use Rattle.law_kept.proofs.laws.used_no_more_while_kept.Goals as goal

pub returns : goal.returns
returns c x history entry node inc name bytes answer comes kept is at_node among = puts_unused history entry comes node inc name bytes answer is at_node x among kept
