use Rattle.std.proofs.Common.{subst}
use Rattle.aft_model.specs.LegalNode.{LegalNode}
use Rattle.aft_ledger.specs.Ledger.{LedgerView}
use Rattle.aft_ledger.proofs.ledger.Ledger.into_history.Goals as goal

pub returns-clause-legal : goal.returns-clause-legal
returns-clause-legal c = subst (λ (v : LedgerView). LegalNode v.number v.capacity v.history) c.self.view_is c.self.invariant.legal
