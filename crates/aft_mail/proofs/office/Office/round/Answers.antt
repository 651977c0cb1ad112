use Rattle.std.proofs.Common.{None, length, ap, arith, refl}
use Rattle.aft_model.specs.declared.office.OfficeAct.TheVariants.{Round}
use Rattle.aft_mail.proofs.Desks.{desk-more, legal-desk}
use Rattle.aft_mail.proofs.office.Office.round.Goals as goal

pub invariant_of-self-2 : goal.invariant_of-self-2
invariant_of-self-2 c =
    let o = c.self.inside in
    rw (c.add.ensures.entry, c.add.ensures.front, c.add.ensures.room, c.in_ok-reserve.ensures.items)
    (desk-more o.history.items o.front o.room o.room _ _ o.running o.running c.args.by (Round _ _) None c.args.front c.self.invariant refl refl
    (omega (arith, ap length c.in_ok-reserve.ensures.items, c.in_ok-reserve.ensures.len, c.in_ok-reserve.ensures.ok)))

pub returns-clause-legal : goal.returns-clause-legal
returns-clause-legal c = legal-desk (invariant_of-self-2 c)
