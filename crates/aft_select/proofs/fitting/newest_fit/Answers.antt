use Rattle.std.proofs.Common.{sym, ◌∙◌}
use Rattle.aft_select.proofs.Turns.{all_left, none_left, read_ends, found_fits, next_left, fewer_left}
use Rattle.aft_select.proofs.fitting.newest_fit.Goals as goal

pub loop-next-init : goal.loop-next-init
loop-next-init g c = all_left c.args.key.now c.args.reads.now (g.M.CommitSet.known c.args.meta.now) _ c.latest-next.ensures

pub returns-then-is_not_blocked : goal.returns-then-is_not_blocked
returns-then-is_not_blocked g c =
    found_fits c.args.key.now c.args.reads.now (g.M.CommitSet.known c.args.meta.now) _ _ c.in-Some.is c.loop-next.invariant (sym c.is_not_blocked.ensures ∙ c.if-is_not_blocked.true)

pub returns-then-has_read : goal.returns-then-has_read
returns-then-has_read g c =
    read_ends c.args.key.now c.args.reads.now (g.M.CommitSet.known c.args.meta.now) _ _ c.in-Some.is c.loop-next.invariant (sym c.has_read.ensures ∙ c.if-has_read.true) (sym c.is_not_blocked.ensures ∙ c.if-is_not_blocked.false)

pub loop-next-smaller : goal.loop-next-smaller
loop-next-smaller g c = fewer_left c.args.key.now c.args.reads.now (g.M.CommitSet.known c.args.meta.now) _ _ c.in-Some.is c.loop-next.invariant _ c.latest_below-next.ensures

pub loop-next-preserved : goal.loop-next-preserved
loop-next-preserved g c =
    next_left c.args.key.now c.args.reads.now (g.M.CommitSet.known c.args.meta.now) _ _ c.in-Some.is c.loop-next.invariant _ c.latest_below-next.ensures (sym c.is_not_blocked.ensures ∙ c.if-is_not_blocked.false)
    (sym c.has_read.ensures ∙ c.if-has_read.false)

pub returns : goal.returns
returns g c = none_left c.args.key.now c.args.reads.now (g.M.CommitSet.known c.args.meta.now) _ c.in_default.is c.loop-next.invariant
