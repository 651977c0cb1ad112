use Rattle.law_holders.proofs.Moves.{rows_move}
use Rattle.law_holders.proofs.laws.rows_move.Goals as goal

pub returns : goal.returns
returns c command nodes ends position next place act before is row leads = rows_move command nodes ends position next place act before is row leads
