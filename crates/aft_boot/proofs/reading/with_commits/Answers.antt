use Rattle.std.proofs.lemmas.Result.{err_from_is_err_and}
use Rattle.aft_boot.proofs.Shown.{not_read, read_step}
use Rattle.aft_boot.proofs.reading.with_commits.Goals as goal

pub returns-in_err-commit-clause-err : goal.returns-in_err-commit-clause-err
returns-in_err-commit-clause-err c =
    let p = err_from_is_err_and c.from_residual.result c.from_residual.ensures.1 in
    rw (p.1, p.2) (not_read c.args.pairs.now c.loop-pair.pair-index c.pair-item.result c.in_err-commit.field-0.0 c.loop-pair-test.true c.pair-item.is c.loop-pair.invariant.1 c.in_err-commit.ensures.err)

pub loop-pair-preserved : goal.loop-pair-preserved
loop-pair-preserved c =
    read_step c.args.commits c.loop-pair.commits.items c.add.new.commits.items c.args.pairs.now c.loop-pair.pair-index c.pair-item.result c.in_ok-commit.commit c.loop-pair-test.true c.pair-item.is c.in_ok-commit.ensures.ok c.loop-pair.invariant c.in_ok-add.ensures.ok
