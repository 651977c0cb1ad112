use Rattle.std.proofs.Common.{[], ◌∷◌}
use Rattle.aft_records.proofs.CommitOrder.{without_ascends}
use Rattle.aft_meta.proofs.plain_meta.PlainMetaCommitSet.remove.Goals as goal

pub invariant_of-self : goal.invariant_of-self
invariant_of-self c = rw c.take_out.ensures (without_ascends (c.args.id ∷ []) c.self.inside.commits.items c.self.invariant)
