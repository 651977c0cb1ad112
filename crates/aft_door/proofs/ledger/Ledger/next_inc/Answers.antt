use Rattle.std.proofs.Common.{Some, None, ◌∙◌, arith}
use Rattle.aft_door.proofs.Found.{next_capped, next_is}
use Rattle.aft_door.proofs.ledger.Ledger.next_inc.Goals as goal

pub returns-in-Some : goal.returns-in-Some
returns-in-Some c =
    rw (← c.self.view_is) (next_capped c.in-Some.greatest.now c.saturating_add.result c.saturating_add.ensures (omega arith)
    ∙ next_is c.args.node c.self.inside.history.items (Some c.in-Some.greatest.now) (c.in-Some.ensures.value ∙ c.self.invariant.fenced_agree c.args.node))

pub returns-in-None : goal.returns-in-None
returns-in-None c = rw (← c.self.view_is) (next_is c.args.node c.self.inside.history.items None (c.in-None.ensures.value ∙ c.self.invariant.fenced_agree c.args.node))
