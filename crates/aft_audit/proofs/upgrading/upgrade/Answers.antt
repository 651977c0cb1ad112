use Rattle.std.proofs.Common.{List, rules, subst}
use Rattle.std.proofs.lemmas.Result.{err_from_is_err_and}
use Rattle.aft_records.specs.declared.stored.Commit.{Commit}
use Rattle.aft_audit.specs.Upgrading.{HasStopped}
use Rattle.aft_audit.proofs.UpgradeCalls.{next_passed, next_stopped}
use Rattle.aft_audit.proofs.upgrading.upgrade.Goals as goal

pub returns-in_err-puts-clause-answer : goal.returns-in_err-puts-clause-answer
returns-in_err-puts-clause-answer g c =
    let p = err_from_is_err_and c.from_residual.result c.from_residual.ensures.1 in
    rw (p.1, p.2) (subst (λ (commits : List Commit). HasStopped c.in_err-puts.field-0.0 commits c.args.door.now.history c.upgrade_record.new.door.history) c.as_slice-commits.ensures
    (next_stopped c.as_slice-commits.result.now c.loop-commit.commit-index _ c.commit-item.result c.loop-commit-test.true c.commit-item.is c.loop-commit.puts c.in_err-puts.field-0.0 c.args.door.now.history c.loop-commit.door.history c.upgrade_record.new.door.history c.loop-commit.invariant.passed c.in_err-puts.ensures.err))

pub loop-commit-preserved : goal.loop-commit-preserved
loop-commit-preserved g c = record {
  passed = next_passed c.as_slice-commits.result.now c.loop-commit.commit-index _ c.commit-item.result c.loop-commit-test.true c.commit-item.is c.loop-commit.puts _ c.args.door.now.history c.loop-commit.door.history c.upgrade_record.new.door.history c.loop-commit.invariant.passed c.in_ok-puts.ensures.ok;
  few = search rules;
  untouched = search rules;
  store = search rules;
  falls = search rules;
}
