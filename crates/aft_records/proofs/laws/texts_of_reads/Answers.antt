use Rattle.aft_records.proofs.IdOrder.{id_digits_order}
use Rattle.aft_records.proofs.ReadIds.{read_id_again}
use Rattle.aft_records.proofs.laws.texts_of_reads.Goals as goal

pub returns-clause-order : goal.returns-clause-order
returns-clause-order c = id_digits_order

pub returns-clause-reading : goal.returns-clause-reading
returns-clause-reading c = read_id_again
