use Rattle.std.proofs.Common.{ap, sym, ◌∙◌}
use Rattle.std.specs.Option.{option_map}
use Rattle.aft_meta.specs.KnownCommits.{keys_at}
use Rattle.aft_meta.specs.declared.known.KnownCommit.{KnownCommit}
use Rattle.aft_meta.proofs.Entries.{keys_at-known}
use Rattle.aft_meta.proofs.meta.MetaCommitSet.keys_of.Goals as goal

pub returns-in-Some-clause-keys : goal.returns-in-Some-clause-keys
returns-in-Some-clause-keys c = ap (option_map (λ (k : KnownCommit). k.keys)) c.in-Some.ensures.value ∙ sym (keys_at-known c.args.id c.self.inside.commits.entries) ∙ ap (keys_at c.args.id) c.self.view_is

pub returns-in-None-clause-keys : goal.returns-in-None-clause-keys
returns-in-None-clause-keys c = ap (option_map (λ (k : KnownCommit). k.keys)) c.in-None.ensures.value ∙ sym (keys_at-known c.args.id c.self.inside.commits.entries) ∙ ap (keys_at c.args.id) c.self.view_is
