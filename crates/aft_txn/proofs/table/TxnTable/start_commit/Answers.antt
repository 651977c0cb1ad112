use Rattle.aft_txn.specs.Rows.{row_at}
use Rattle.aft_txn.proofs.Times.{above-start}
use Rattle.aft_txn.proofs.table.TxnTable.start_commit.Goals as goal

pub returns-clause-above : goal.returns-clause-above
returns-clause-above c = above-start (row_at c.args.number c.args.self.now.rows) c.in_ok-id.id c.args.now c.args.floor c.in_ok-id.ensures.id
