use Rattle.std.proofs.Common.{arith}
use Rattle.aft_ledger.proofs.Entries.{raise_front}
use Rattle.aft_ledger.proofs.Fields.{held}
use Rattle.aft_ledger.proofs.ledger.Ledger.raise.Goals as goal

pub invariant_of-self : goal.invariant_of-self
invariant_of-self c = raise_front (held c.self.inside) c.self.invariant _ (omega arith)
