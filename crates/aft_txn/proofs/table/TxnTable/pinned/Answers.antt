use Rattle.std.proofs.Common.{◌∙◌, ap}
use Rattle.aft_txn.specs.Rows.{Table, is_pinned_in}
use Rattle.aft_txn.proofs.Tables.{pinned-is}
use Rattle.aft_txn.proofs.table.TxnTable.pinned.Goals as goal

pub returns : goal.returns
returns c = c.contains_key.ensures ∙ pinned-is c.self.invariant c.args.id ∙ ap (λ (t : Table). is_pinned_in c.args.id t.rows) c.self.view_is
