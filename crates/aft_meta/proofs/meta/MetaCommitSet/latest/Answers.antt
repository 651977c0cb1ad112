use Rattle.std.proofs.Common.{ap, ◌∙◌}
use Rattle.aft_records.specs.Commits.{latest}
use Rattle.aft_meta.proofs.Asked.{latest_under}
use Rattle.aft_meta.proofs.meta.MetaCommitSet.latest.Goals as goal

pub returns : goal.returns
returns c = c.newest.ensures ∙ latest_under c.self.inside.commits.entries c.self.inside.writers.entries c.self.invariant.index c.args.key.now ∙ ap (latest c.args.key.now) c.self.view_is
