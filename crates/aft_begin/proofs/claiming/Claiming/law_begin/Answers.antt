use Rattle.std.proofs.Common.{◌≡◌, subst}
use Rattle.aft_begin.specs.declared.aim.Aim.TheVariants.{Begin}
use Rattle.aft_begin.specs.Made.{Knows}
use Rattle.aft_begin.specs.View.{ClaimView}
use Rattle.aft_begin.proofs.OwnTurns.{begins_know}
use Rattle.aft_begin.proofs.claiming.Claiming.law_begin.Goals as goal

pub returns : goal.returns
returns c history =
    subst (λ (v : ClaimView). v.aim ≡ Begin → Knows v history) c.self.view_is
    (begins_know c.self.inside.aim c.self.inside.node c.self.inside.uuid c.self.inside.stage history c.self.invariant)
