use Rattle.std.proofs.Common.{ℕ, Option, Some, ap, ◌∙◌, nat_eq}
use Rattle.std.specs.Option.{option_eq}
use Rattle.aft_door.proofs.Found.{up_is}
use Rattle.aft_door.proofs.ledger.Ledger.is_up.Goals as goal

pub returns : goal.returns
returns c =
    c.eq.ensures ∙ ap (λ (o : Option ℕ). option_eq nat_eq o (Some c.args.inc)) c.up_now.ensures
    ∙ up_is c.args.self.now.history c.args.node c.args.inc c.law.ensures.standing.one
