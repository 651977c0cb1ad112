use Rattle.std.proofs.Common.{ap, ◌∙◌}
use Rattle.aft_meta.specs.KnownCommits.{latest_below}
use Rattle.aft_meta.proofs.Asked.{below_under}
use Rattle.aft_meta.proofs.meta.MetaCommitSet.latest_below.Goals as goal

pub returns : goal.returns
returns c = c.newest_below.ensures ∙ below_under c.self.inside.commits.entries c.self.inside.writers.entries c.self.invariant.index c.args.key.now c.args.id ∙ ap (latest_below c.args.key.now c.args.id) c.self.view_is
