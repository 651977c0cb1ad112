use Rattle.std.proofs.Common.{◌∙◌}
use Rattle.aft_cache.proofs.Entries.{lookup-kept}
use Rattle.aft_cache.proofs.data_cache.DataCache.peek.Goals as goal

pub returns : goal.returns
returns c = rw (← c.self.view_is) (c.peek.ensures ∙ lookup-kept c.args.at.now c.self.inside.values.entries)
