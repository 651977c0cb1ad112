use Rattle.std.proofs.Common.{Some, None, ◌∙◌}
use Rattle.aft_door.proofs.Found.{fenced_is}
use Rattle.aft_door.proofs.ledger.Ledger.was_fenced.Goals as goal

pub returns-in-Some : goal.returns-in-Some
returns-in-Some c = rw (← c.self.view_is) (fenced_is c.args.node c.args.inc c.self.inside.history.items (Some c.in-Some.greatest.now) (c.in-Some.ensures.value ∙ c.self.invariant.fenced_agree c.args.node))

pub returns-in-None : goal.returns-in-None
returns-in-None c = rw (← c.self.view_is) (fenced_is c.args.node c.args.inc c.self.inside.history.items None (c.in-None.ensures.value ∙ c.self.invariant.fenced_agree c.args.node))
