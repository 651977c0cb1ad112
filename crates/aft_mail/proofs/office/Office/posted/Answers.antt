use Rattle.std.proofs.Common.{Some, ap, sym, subst, arith}
use Rattle.std.specs.Prelude.{IsTrue}
use Rattle.aft_records.specs.Commits.{ids_of}
use Rattle.aft_model.specs.Office.{last_round, may_post}
use Rattle.aft_mail.specs.Desk.{Desk}
use Rattle.aft_mail.proofs.Desks.{desk-posted, legal-desk}
use Rattle.aft_mail.proofs.office.Office.posted.Goals as goal

pub invariant_of-self : goal.invariant_of-self
invariant_of-self c =
    let o = c.self.inside in
    let room = ap (λ (d : Desk). d.room) c.self.view_is in
    let may = subst (λ (d : Desk). IsTrue (may_post (last_round c.args.by d.history) (ids_of c.args.posted) (Some c.args.reply))) (sym c.self.view_is) c.requires.may in
    rw (c.add.ensures.entry, c.add.ensures.front, c.add.ensures.room)
    (desk-posted o.history.items o.front o.room _ o.running c.args.by (ids_of c.args.posted) c.args.reply c.args.front c.hear-heard.result c.posted_as-act.result c.self.invariant (omega (arith, room, c.requires.room)) may (rw c.as_slice.ensures at c.hear-heard.ensures.ids) c.posted_as-act.ensures)

pub returns-clause-legal : goal.returns-clause-legal
returns-clause-legal c = legal-desk (invariant_of-self c)
