use Rattle.std.proofs.Common.{◌≡◌, ◌+◌, take}
use Rattle.std.specs.List.{fold}
use Rattle.aft_records.specs.Commits.{with_commit}
use Rattle.aft_ledger.specs.Knowing.{Tallied}
use Rattle.aft_ledger.proofs.ledger.known.learn_all.Given as goal

abbrev pub invariant-loop-at : goal.invariant-loop-at
invariant-loop-at l =
    (l.known ≡ fold with_commit l.fn.known (take l.at l.commits)) × Tallied l.fn.known (take l.at l.commits) l.told × (l.told.taken + l.told.superseded + l.told.known ≡ l.at)
