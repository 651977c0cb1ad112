use Rattle.std.proofs.Common.{ap, ◌∙◌, List, refl}
use Rattle.aft_records.specs.Kept.{Kept}
use Rattle.aft_cache.specs.Values.{Values}
use Rattle.aft_cache.proofs.Entries.{promoted-kept, lookup-kept}
use Rattle.aft_cache.proofs.data_cache.DataCache.look.Goals as goal

pub returns : goal.returns
returns c =
    let values = c.self.inside.values in
    let shows : List Kept → Values = λ kept. record { capacity = values.cap; kept = kept } in
    rw (c.get.follows.holds-at-none, ← c.self.view_is)
    ((refl, λ _. tt, ap shows (promoted-kept values c.len-held.ensures.valid c.args.at.now)), record { used = tt; value = c.get.ensures.value ∙ lookup-kept c.args.at.now values.entries })
