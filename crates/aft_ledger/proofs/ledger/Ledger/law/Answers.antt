use Rattle.std.proofs.Common.{subst}
use Rattle.aft_model.specs.LegalNode.{LegalNode}
use Rattle.aft_ledger.specs.Ledger.{FrontsWithin, LedgerView}
use Rattle.aft_ledger.proofs.ledger.Ledger.law.Goals as goal

pub returns-clause-legal : goal.returns-clause-legal
returns-clause-legal c = subst (λ (v : LedgerView). LegalNode v.number v.capacity v.history) c.self.view_is c.self.invariant.legal

pub returns-clause-fronts : goal.returns-clause-fronts
returns-clause-fronts c = subst (λ (v : LedgerView). FrontsWithin v.front v.history) c.self.view_is c.self.invariant.fronts
