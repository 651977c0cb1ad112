use Rattle.aft_meta.proofs.Order.{ascending_sorted}
use Rattle.std.proofs.Common.{subst, List}
use Rattle.std.specs.Prelude.{IsTrue}
use Rattle.aft_id.specs.declared.txn_id.TxnId.{TxnId}
use Rattle.aft_records.specs.Commits.{is_ascending}
use Rattle.aft_meta.proofs.ids.Ids.list.Goals as goal

pub returns-clause-in_order : goal.returns-clause-in_order
returns-clause-in_order c = subst (λ (ids : List TxnId). IsTrue (is_ascending ids)) c.self.view_is (ascending_sorted c.self.inside.ids.keys c.iter.ensures.ordered)
