use Rattle.std.proofs.Common.{◌≡◌, [], not, take}
use Rattle.std.specs.Prelude.{filter}
use Rattle.std.specs.List.{fold}
use Rattle.aft_records.specs.Commits.{with_commit}
use Rattle.aft_records.specs.Superseded.{is_superseded}
use Rattle.aft_ledger.proofs.ledger.stages.learned_newest.Given as goal

abbrev pub invariant-loop-commit : goal.invariant-loop-commit
invariant-loop-commit l = l.known ≡ fold with_commit [] (filter (λ c. not (is_superseded c l.all)) (take l.commit-index l.commits))
