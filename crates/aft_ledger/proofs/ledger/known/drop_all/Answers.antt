use Rattle.std.proofs.Common.{[], ◌∷◌, ap, sym, subst, ◌∙◌, List}
use Rattle.std.specs.Prelude.{IsFalse}
use Rattle.aft_records.specs.Commits.{without_ids}
use Rattle.aft_records.specs.declared.stored.Commit.{Commit}
use Rattle.aft_meta.specs.KnownCommits.{supersedes_id}
use Rattle.aft_ledger.proofs.Dropped.{dropped_more, dropped_none, dropped_same}
use Rattle.aft_ledger.proofs.ledger.known.drop_all.Goals.{else-superseded, then-superseded}
use Rattle.aft_ledger.proofs.ledger.known.drop_all.Goals as goal

pub loop-id-init : goal.loop-id-init
loop-id-init c = dropped_none c.args.known.now

pub loop-id-preserved : goal.loop-id-preserved
loop-id-preserved c =
    let old = c.args.known.now in
    let ids = c.args.ids.now in
    let id = c.id-item.result in
    elim c.if-superseded.branch [
      | then-superseded w ↦ w.known-is ∙ (w.remove.ensures ∙ (ap (without_ids (id ∷ [])) c.loop-id.invariant ∙ dropped_more old ids c.loop-id.id-index id c.loop-id-test.true c.id-item.is))
      | else-superseded w ↦ w.known-is ∙ (c.loop-id.invariant ∙ dropped_same old ids c.loop-id.id-index id c.requires.in_order c.requires.all c.loop-id-test.true c.id-item.is
          (subst (λ (k : List Commit). IsFalse (supersedes_id id k)) c.loop-id.invariant (sym c.superseded.ensures ∙ w.if-superseded.false)))
    ]
