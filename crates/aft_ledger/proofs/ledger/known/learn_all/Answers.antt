use Rattle.std.proofs.Common.{◌≡◌, ◌+◌, [], ◌∷◌, ◌++◌, ap, sym, subst, ◌∙◌, List, take}
use Rattle.std.proofs.lemmas.List.{take_more}
use Rattle.std.proofs.lemmas.List.Sums.{fold-append}
use Rattle.std.specs.List.{fold}
use Rattle.aft_records.specs.Commits.{with_commit}
use Rattle.aft_records.specs.declared.stored.Commit.{Commit}
use Rattle.aft_meta.specs.KnownCommits.{learnt}
use Rattle.aft_ledger.specs.Knowing.{Tallied, told_more}
use Rattle.aft_ledger.specs.declared.ledger.known.Told.{Told}
use Rattle.aft_ledger.proofs.Learned.{told_count, told_step}
use Rattle.aft_ledger.proofs.ledger.known.learn_all.Goals as goal

pub loop-at-preserved : goal.loop-at-preserved
loop-at-preserved c =
    let k = c.args.known.now in
    let commits = c.args.commits.now in
    let i = c.loop-at.at in
    let x = c.index-commits-at.result in
    let inv = c.loop-at.invariant in
    let front : take (i + 1) commits ≡ take i commits ++ x ∷ [] = take_more commits i x c.loop-at-test.true ∙ ap (λ (y : Commit). take i commits ++ y ∷ []) (sym c.index-commits-at.is) in
    let now : c.one_more-told.result ≡ told_more c.loop-at.told (learnt x (fold with_commit k (take i commits))) = c.one_more-told.ensures ∙ ap (told_more c.loop-at.told) (c.in-Ok.ensures.answer ∙ ap (learnt x) inv.0) in (
      c.in-Ok.ensures.ok ∙ (ap (λ (l : List Commit). with_commit l x) inv.0 ∙ sym (ap (fold with_commit k) front ∙ fold-append with_commit k (take i commits) (x ∷ []))),
      subst (λ (cs : List Commit). Tallied k cs c.one_more-told.result) (sym front) (subst (λ (t : Told). Tallied k (take i commits ++ x ∷ []) t) (sym now) (told_step k (take i commits) x c.loop-at.told inv.1)),
      ap (λ (t : Told). t.taken + t.superseded + t.known) now ∙ (told_count c.loop-at.told (learnt x (fold with_commit k (take i commits))) ∙ ap (λ n. n + 1) inv.2),
    )
