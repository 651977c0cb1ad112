use Rattle.std.proofs.Common.{ap, not, ◌&&◌}
use Rattle.std.specs.Prelude.{◌==◌}
use Rattle.aft_model.specs.Claims.{has_kept}
use Rattle.aft_door.specs.Least.{keeps}
use Rattle.aft_door.proofs.Holdouts.{least_as, least_is}
use Rattle.aft_door.proofs.Standing.{standing_is}
use Rattle.aft_door.proofs.ledger.Ledger.holdout.Goals as goal

pub returns : goal.returns
returns c =
    let i = c.self.inside in
    rw (← c.self.view_is) (least_is c.args.id.now i.history.items i.ups.entries c.self.invariant.ups_agree (standing_is i.history.items c.self.invariant.legal).one c.least_kept.result
    (least_as (keeps c.args.id.now i.given.keys) (has_kept c.args.id.now i.history.items) (λ w. ap (λ t. not (w.node == 0) && not t) (c.self.invariant.given_agree w c.args.id.now)) i.ups.entries i.ups.entries c.least_kept.result c.least_kept.ensures))
