use Rattle.std.proofs.Common.{List, ◌&&◌, not, ap, subst, sym, ◌∙◌}
use Rattle.std.specs.Prelude.{IsTrue}
use Rattle.aft_id.specs.TxnId.{same_id}
use Rattle.aft_records.specs.declared.stored.Commit.{Commit}
use Rattle.aft_meta.specs.Index.{commits_of}
use Rattle.aft_meta.specs.KnownCommits.{supersedes_id}
use Rattle.aft_meta.proofs.Places.{without_one}
use Rattle.aft_meta.proofs.Superseding.{superseded_less}
use Rattle.aft_meta.proofs.meta.MetaCommitSet.remove.Goals as goal

pub invariant_of-self : goal.invariant_of-self
invariant_of-self c =
    let known = commits_of c.self.inside.commits.entries in
    let over = subst (λ (k : List Commit). IsTrue (supersedes_id c.args.id k)) (sym c.self.view_is) c.requires in
    record {
      index = c.take_out.ensures.index;
      noted = λ v. c.take.ensures v ∙ ap (λ b. b && not (same_id v c.args.id)) (c.self.invariant.noted v) ∙ sym (superseded_less known c.args.id c.self.invariant.index.in_order over v) ∙ ap (supersedes_id v) (without_one c.args.id known ∙ sym c.take_out.ensures.without);
    }
