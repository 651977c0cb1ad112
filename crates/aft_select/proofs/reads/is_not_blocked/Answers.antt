use Rattle.std.proofs.Common.{sym, ap, ◌∙◌}
use Rattle.aft_select.proofs.Keys.{none_below_in, is_not_blocked-keys}
use Rattle.aft_select.proofs.reads.is_not_blocked.Goals as goal

pub returns-in-Some : goal.returns-in-Some
returns-in-Some g c =
    c.none_read_below.ensures ∙ rw c.list.ensures.value (ap (none_below_in c.args.id.now c.args.reads.now) c.in-Some.ensures.keys)
    ∙ sym (is_not_blocked-keys c.args.id.now c.args.reads.now (g.M.CommitSet.known c.args.meta.now) c.keys_of.ensures.in_order)

pub returns-in-None : goal.returns-in-None
returns-in-None g c =
    ap (none_below_in c.args.id.now c.args.reads.now) c.in-None.ensures.keys ∙ sym (is_not_blocked-keys c.args.id.now c.args.reads.now (g.M.CommitSet.known c.args.meta.now) c.keys_of.ensures.in_order)
