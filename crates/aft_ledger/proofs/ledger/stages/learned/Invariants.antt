use Rattle.std.proofs.Common.{◌≡◌, [], take}
use Rattle.std.specs.List.{fold}
use Rattle.aft_records.specs.Commits.{with_commit}
use Rattle.aft_ledger.proofs.ledger.stages.learned.Given as goal

abbrev pub invariant-loop-commit : goal.invariant-loop-commit
invariant-loop-commit l = l.known ≡ fold with_commit [] (take l.commit-index l.commits)
