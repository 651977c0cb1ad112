use Rattle.aft_records.specs.Commits.{versions}
use Rattle.aft_select.proofs.Turns.{IsLeft}
use Rattle.aft_select.proofs.Walks.{left}
use Rattle.aft_select.proofs.fitting.newest_fit.Given as goal

-- each version that fits, and each that was read, is at most the next one
abbrev pub invariant-loop-next : goal.invariant-loop-next
invariant-loop-next g l = IsLeft l.key l.reads (g.M.CommitSet.known l.meta) l.next

abbrev pub decreases-loop-next : goal.decreases-loop-next
decreases-loop-next g l = left l.next (versions l.key (g.M.CommitSet.known l.meta))
