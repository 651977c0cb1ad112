use Rattle.std.proofs.Common.{ap, ◌∙◌}
use Rattle.aft_records.specs.Superseded.{is_superseded}
use Rattle.aft_meta.proofs.Asked.{covered_under}
use Rattle.aft_meta.proofs.meta.MetaCommitSet.covered.Goals as goal

pub returns : goal.returns
returns c = c.is_covered.ensures ∙ covered_under c.self.inside.commits.entries c.self.inside.writers.entries c.self.invariant.index c.args.commit.now ∙ ap (is_superseded c.args.commit.now) c.self.view_is
