use Rattle.std.proofs.Common.{sym, subst, ◌∙◌}
use Rattle.std.specs.Prelude.{Option}
use Rattle.aft_id.specs.declared.txn_id.TxnId.{TxnId}
use Rattle.aft_audit.specs.Newest.{Raises}
use Rattle.aft_audit.proofs.Newer.{raises_above, raises_below, raises_none}
use Rattle.aft_audit.proofs.newest.greater.Goals as goal

pub returns-in-None : goal.returns-in-None
returns-in-None c = subst (λ (o : Option TxnId). Raises o c.args.id c.args.id) (sym c.in-None.is) (raises_none c.args.id)

pub returns-then-is_before : goal.returns-then-is_before
returns-then-is_before c = subst (λ (o : Option TxnId). Raises o c.args.id c.in-Some.other) (sym c.in-Some.is) (raises_below c.in-Some.other c.args.id (sym c.is_before.ensures ∙ c.if-is_before.true))

pub returns-else-is_before : goal.returns-else-is_before
returns-else-is_before c = subst (λ (o : Option TxnId). Raises o c.args.id c.args.id) (sym c.in-Some.is) (raises_above c.in-Some.other c.args.id (sym c.is_before.ensures ∙ c.if-is_before.false))
