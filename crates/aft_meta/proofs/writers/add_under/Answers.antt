use Rattle.std.proofs.Common.{◌∙◌}
use Rattle.std.specs.List.{list_any}
use Rattle.std.specs.Str.{bytes_eq}
use Rattle.aft_id.specs.TxnId.{same_id}
use Rattle.aft_meta.specs.Index.{stands_under}
use Rattle.aft_meta.proofs.Under.{restored}
use Rattle.aft_meta.proofs.writers.add_under.Goals as goal

pub returns-in-Err-clause-err : goal.returns-in-Err-clause-err
returns-in-Err-clause-err c k v =
    c.take_under.ensures k v
    ∙ restored (stands_under k v c.args.writers.now.entries) (stands_under k v c.add_each.new.writers.entries) (list_any (bytes_eq k) c.args.keys.now) (same_id v c.args.id.now) (c.requires k v) (c.in-Err.ensures.err k v)
