use Rattle.std.proofs.Common.{◌≡◌, not, take}
use Rattle.std.specs.Prelude.{filter}
use Rattle.aft_records.specs.Superseded.{is_superseded}
use Rattle.aft_ledger.proofs.fresh.uncovered.Given as goal

abbrev pub invariant-loop-commit : goal.invariant-loop-commit
invariant-loop-commit l = l.copies.items ≡ filter (λ c. not (is_superseded c l.known)) (take l.commit-index l.commits)
