use Rattle.std.proofs.Common.{subst, ◌∙◌}
use Rattle.std.specs.Prelude.{Option}
use Rattle.aft_id.specs.declared.txn_id.TxnId.{TxnId}
use Rattle.aft_audit.specs.Newest.{Raises}
use Rattle.aft_audit.proofs.Newer.{raised}
use Rattle.aft_audit.proofs.newest.raise.Goals as goal

pub returns : goal.returns
returns c =
    raised c.args.key.now c.args.id c.greater-greatest.result c.args.newest.now.entries c.insert.new.self.entries (rw c.in_ok-clone.ensures.cases at c.in_ok-insert.ensures.updates.0)
    (subst (λ (o : Option TxnId). Raises o c.args.id c.greater-greatest.result) (c.copied.ensures ∙ c.get.ensures.value) c.greater-greatest.ensures)
