use Rattle.aft_door.proofs.Standing.{standing_is}
use Rattle.aft_door.proofs.ledger.Ledger.law.Goals as goal

pub returns-clause-standing : goal.returns-clause-standing
returns-clause-standing c = rw (← c.self.view_is) (standing_is c.self.inside.history.items c.self.invariant.legal)
