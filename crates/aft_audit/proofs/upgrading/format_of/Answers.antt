use Rattle.std.proofs.Common.{subst, sym}
use Rattle.aft_records.specs.Stored.{IsCommit}
use Rattle.aft_model.proofs.Ids.{same_commits}
use Rattle.aft_audit.proofs.upgrading.format_of.Goals as goal

pub returns-in-Some-2-clause-limits : goal.returns-in-Some-2-clause-limits
returns-in-Some-2-clause-limits c _ = subst IsCommit (sym (same_commits c.args.commit.now c.in-Some-2.other (sym c.if-eq.ensures))) (rw c.in-Some-2.is at c.in_ok-other.ensures.limits)
