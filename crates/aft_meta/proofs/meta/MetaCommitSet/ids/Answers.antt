use Rattle.std.proofs.Common.{ap, ◌∙◌}
use Rattle.aft_records.specs.Commits.{ids_of}
use Rattle.aft_meta.proofs.Entries.{ids_of-keys}
use Rattle.aft_meta.proofs.meta.MetaCommitSet.ids.Goals as goal

pub returns-clause-ids : goal.returns-clause-ids
returns-clause-ids c = c.from_vec.ensures ∙ c.in_ok-ids_of.ensures ∙ ids_of-keys c.self.inside.commits.entries ∙ ap ids_of c.self.view_is
