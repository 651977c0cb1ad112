use Rattle.std.proofs.Common.{None, ap, arith, refl}
use Rattle.aft_mail.specs.Desk.{Desk}
use Rattle.aft_mail.proofs.Desks.{desk-ends, legal-desk}
use Rattle.aft_mail.proofs.office.Office.collect_end.Goals as goal
use Rattle.aft_mail.proofs.office.Office.collect_end.Goals.{then-is_ours, else-is_ours}

pub invariant_of-self : goal.invariant_of-self
invariant_of-self c =
    let o = c.self.inside in
    let room = ap (λ (d : Desk). d.room) c.self.view_is in
    elim c.if-is_ours.branch [
      | then-is_ours w ↦ rw (c.add.ensures.entry, c.add.ensures.front, c.add.ensures.room, w.self-inside-is) (desk-ends o.history.items o.front o.room _ o.running None c.args.by c.args.reply c.args.front c.is_run_by-is_ours.result c.ended_as-act.result c.self.invariant (omega (arith, room, c.requires.room)) c.requires.may c.is_run_by-is_ours.ensures c.ended_as-act.ensures (rw w.if-is_ours.true refl))
      | else-is_ours w ↦ rw (c.add.ensures.entry, c.add.ensures.front, c.add.ensures.room, w.self-inside-is) (desk-ends o.history.items o.front o.room _ o.running o.running c.args.by c.args.reply c.args.front c.is_run_by-is_ours.result c.ended_as-act.result c.self.invariant (omega (arith, room, c.requires.room)) c.requires.may c.is_run_by-is_ours.ensures c.ended_as-act.ensures (rw w.if-is_ours.false refl))
    ]

pub returns-clause-legal : goal.returns-clause-legal
returns-clause-legal c = legal-desk (invariant_of-self c)
