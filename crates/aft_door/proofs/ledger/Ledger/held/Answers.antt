use Rattle.std.proofs.Common.{sym, subst}
use Rattle.aft_door.specs.Index.{IsPlaced}
use Rattle.aft_door.proofs.ledger.Ledger.held.Goals as goal

pub returns-clause-place : goal.returns-clause-place
returns-clause-place c =
    rw (← c.self.view_is) (subst (IsPlaced c.args.uuid.now c.self.inside.history.items) (sym c.in_ok-claimed.ensures.value) (c.self.invariant.claims_agree.place c.args.uuid.now))
