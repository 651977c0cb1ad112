use Rattle.aft_id.proofs.IdOrder.{id_cmp-total, id_partial_cmp-derived, tied_ids, uuid_order}
use Rattle.aft_id.proofs.laws.id_order.Goals as goal

pub returns-clause-tied : goal.returns-clause-tied
returns-clause-tied c = tied_ids

pub returns-clause-compared : goal.returns-clause-compared
returns-clause-compared c = id_partial_cmp-derived

pub returns-clause-numbered : goal.returns-clause-numbered
returns-clause-numbered c = uuid_order

pub returns-clause-total : goal.returns-clause-total
returns-clause-total c = id_cmp-total
