use Rattle.std.proofs.Common.{◌-◌, Some, ap, arith, refl}
use Rattle.aft_model.specs.declared.office.OfficeAct.TheVariants.{Nothing}
use Rattle.aft_mail.specs.Desk.{Desk}
use Rattle.aft_mail.proofs.Desks.{desk-more, legal-desk}
use Rattle.aft_mail.proofs.office.Office.answer.Goals as goal

pub invariant_of-self : goal.invariant_of-self
invariant_of-self c =
    let o = c.self.inside in
    let room = ap (λ (d : Desk). d.room) c.self.view_is in
    rw (c.add.ensures.entry, c.add.ensures.front, c.add.ensures.room)
    (desk-more o.history.items o.front o.room (o.room - 1) _ _ o.running o.running c.args.by Nothing (Some c.args.reply) c.args.front c.self.invariant c.requires.may refl (omega (arith, room, c.requires.room, c.self.invariant.space)))

pub returns-clause-legal : goal.returns-clause-legal
returns-clause-legal c = legal-desk (invariant_of-self c)
