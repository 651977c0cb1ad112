use Rattle.aft_runs.proofs.Filters.{Everywhere, everywhere, none_fails}
use Rattle.aft_runs.specs.Promises.{keeps, promises}
use Rattle.aft_runs.proofs.parts.every_promise.Goals as goal

pub returns-clause-kept : goal.returns-clause-kept
returns-clause-kept c told none =
    let all : Everywhere (λ promise. keeps promise told.ran.trace) promises = everywhere (λ promise. keeps promise told.ran.trace) promises none.1 in
    record {
      atomic_read_sets = all.0;
      recorded_before = all.1.0;
      own_writes_and_repeats = all.1.1.0;
      one_commit_an_id = all.1.1.1.0;
      whole_commits = all.1.1.1.1.0;
      nothing_found_deleted = all.1.1.1.1.1.0;
      blockers_named = all.1.1.1.1.1.1.0;
    }

pub returns-clause-breaks_none : goal.returns-clause-breaks_none
returns-clause-breaks_none c told honest kept = (
  honest,
  none_fails (λ promise. keeps promise told.ran.trace) promises
      (kept.atomic_read_sets, (kept.recorded_before, (kept.own_writes_and_repeats, (kept.one_commit_an_id, (kept.whole_commits, (kept.nothing_found_deleted, (kept.blockers_named, tt))))))),
)

pub returns-clause-promised : goal.returns-clause-promised
returns-clause-promised c told none honest = returns-clause-kept c told none
