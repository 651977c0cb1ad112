use Rattle.std.proofs.Common.{◌∙◌}
use Rattle.aft_mail.proofs.Heard.{unheard-more}
use Rattle.aft_mail.proofs.copies.unheard.Goals as goal
use Rattle.aft_mail.proofs.copies.unheard.Goals.{then-not-contains+in_ok-clone+in_ok-push, else-not-contains}

pub loop-commit-preserved : goal.loop-commit-preserved
loop-commit-preserved c =
    let item = c.commit-item.result in
    let heard = c.contains.ensures ∙ c.in_ok-known.ensures item.id in
    let step = unheard-more c.args.known.now c.args.commits.now c.loop-commit.commit-index item c.loop-commit.missed.items c.contains.result c.loop-commit-test.true c.commit-item.is heard c.loop-commit.invariant in
    elim c.if-not-contains.branch [
      | then-not-contains+in_ok-clone+in_ok-push w ↦ rw (w.missed-is, w.in_ok-push.ensures.items, w.in_ok-clone.ensures.cases) (rw w.if-not-contains.true at step)
      | else-not-contains w ↦ rw w.missed-is (rw w.if-not-contains.false at step)
    ]
