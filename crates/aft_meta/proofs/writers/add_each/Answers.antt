use Rattle.std.proofs.Common.{take, ◌∙◌}
use Rattle.std.specs.List.{list_any}
use Rattle.std.specs.Str.{bytes_eq}
use Rattle.aft_id.specs.TxnId.{same_id}
use Rattle.aft_meta.specs.Index.{stands_under}
use Rattle.aft_meta.proofs.Under.{any_front, absorbed}
use Rattle.aft_meta.proofs.writers.add_each.Goals as goal

pub returns-in-Err-clause-err : goal.returns-in-Err-clause-err
returns-in-Err-clause-err c k v =
    absorbed (stands_under k v c.args.writers.now.entries) _ (list_any (bytes_eq k) (take c.loop-key.key-index c.args.keys.now)) (list_any (bytes_eq k) c.args.keys.now) (same_id v c.args.id.now)
    (c.in-Err.ensures.err k v ∙ c.loop-key.invariant k v) (any_front (bytes_eq k) c.args.keys.now c.loop-key.key-index)
