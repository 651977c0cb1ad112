use Rattle.std.proofs.Common.{ap, List}
use Rattle.aft_records.specs.Kept.{Kept}
use Rattle.aft_cache.specs.Values.{Values}
use Rattle.aft_cache.proofs.Entries.{put-kept}
use Rattle.aft_cache.proofs.data_cache.DataCache.keep.Goals as goal

pub returns-clause-ok : goal.returns-clause-ok
returns-clause-ok c =
    let values = c.self.inside.values in
    let shows : List Kept → Values = λ kept. record { capacity = values.cap; kept = kept } in
    rw (c.in_ok-put.ensures.entries, ← c.self.view_is) (ap shows (put-kept values c.len-held.ensures.valid (record { key = c.args.key; id = c.args.id }) c.args.value))
