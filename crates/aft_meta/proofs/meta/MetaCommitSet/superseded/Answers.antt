use Rattle.std.proofs.Common.{ap, sym, ◌∙◌}
use Rattle.aft_meta.specs.KnownCommits.{supersedes_id}
use Rattle.aft_meta.proofs.Asked.{superseded_counted, superseded_unknown}
use Rattle.aft_meta.proofs.meta.MetaCommitSet.superseded.Goals as goal

pub returns-in-Some : goal.returns-in-Some
returns-in-Some c = superseded_counted c.self.inside.commits.entries c.self.inside.writers.entries c.self.invariant.index c.args.id c.in-Some.known.now (sym c.in-Some.ensures.value) ∙ ap (supersedes_id c.args.id) c.self.view_is

pub returns-in-None : goal.returns-in-None
returns-in-None c = sym (superseded_unknown c.self.inside.commits.entries c.self.inside.writers.entries c.self.invariant.index c.args.id (sym c.in-None.ensures.value)) ∙ ap (supersedes_id c.args.id) c.self.view_is
