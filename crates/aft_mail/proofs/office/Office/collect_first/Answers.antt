use Rattle.std.proofs.Common.{◌-◌, ◌∙◌, not, Some, ap, arith, refl}
use Rattle.aft_model.specs.declared.office.OfficeAct.TheVariants.{Nothing}
use Rattle.aft_model.specs.declared.reply.Reply.TheVariants as replies
use Rattle.aft_mail.specs.Desk.{Desk}
use Rattle.aft_mail.proofs.Desks.{desk-begins, desk-more, legal-desk}
use Rattle.aft_mail.proofs.office.Office.collect_first.Goals as goal

pub invariant_of-self : goal.invariant_of-self
invariant_of-self c =
    let o = c.self.inside in
    rw (c.add.ensures.entry, c.add.ensures.front, c.add.ensures.room)
    (desk-begins o.history.items o.front o.room _ o.running c.args.by c.args.front c.self.invariant (c.is_none-free.ensures ∙ ap not c.if-free.true))

pub invariant_of-self-else-free : goal.invariant_of-self-else-free
invariant_of-self-else-free c =
    let o = c.self.inside in
    let room = ap (λ (d : Desk). d.room) c.self.view_is in
    rw (c.add-else-free.ensures.entry, c.add-else-free.ensures.front, c.add-else-free.ensures.room)
    (desk-more o.history.items o.front o.room (o.room - 1) _ _ o.running o.running c.args.by Nothing (Some replies.Collecting) c.args.front c.self.invariant refl refl (omega (arith, room, c.requires, c.self.invariant.space)))

pub returns-then-free-clause-legal : goal.returns-then-free-clause-legal
returns-then-free-clause-legal c = legal-desk (invariant_of-self c)

pub returns-else-free-clause-legal : goal.returns-else-free-clause-legal
returns-else-free-clause-legal c = legal-desk (invariant_of-self-else-free c)
