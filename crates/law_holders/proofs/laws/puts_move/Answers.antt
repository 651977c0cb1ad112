use Rattle.law_holders.proofs.Kept.{puts_move}
use Rattle.law_holders.proofs.laws.puts_move.Goals as goal

pub returns : goal.returns
returns c command nodes ends position next place act puts is row leads = puts_move command nodes ends position next place act puts is row leads
