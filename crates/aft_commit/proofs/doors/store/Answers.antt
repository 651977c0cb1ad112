use Rattle.std.proofs.Common.{List, length, subst, ◌≤◌, ℕ}
use Rattle.aft_commit.proofs.doors.store.Goals as goal

pub returns-else-count-list-clause-steps : goal.returns-else-count-list-clause-steps
returns-else-count-list-clause-steps g c clock hold aborts may =
    c.store_record.ensures.steps clock hold aborts c.args.values c.args.count (subst (λ (keys : List (List ℕ)). length keys ≤ c.args.count) c.list.ensures.value c.if-count-list.false) may
