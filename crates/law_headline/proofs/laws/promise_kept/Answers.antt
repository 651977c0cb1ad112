use Rattle.law_runs.proofs.LegalRuns.{legal_goes}
use Rattle.law_promise.proofs.Doors.{once, whole}
use Rattle.law_gets.proofs.Gets.{atomic, blockers}
use Rattle.law_gets.proofs.Values.{values_recorded, values_repeat}
use Rattle.law_losses.proofs.Entries.{nothing_lost}
use Rattle.law_headline.proofs.Gets.{gets_keep}
use Rattle.law_headline.proofs.laws.promise_kept.Goals as goal

pub returns : goal.returns
returns c asked ran legal honest = record {
  atomic_read_sets = atomic asked ran (legal_goes asked ran legal) honest;
  recorded_before = values_recorded asked ran (legal_goes asked ran legal) honest;
  own_writes_and_repeats = values_repeat asked ran (legal_goes asked ran legal) honest;
  one_commit_an_id = once asked ran (legal_goes asked ran legal) honest;
  whole_commits = whole asked ran (legal_goes asked ran legal) honest;
  nothing_found_deleted = nothing_lost asked ran legal honest (gets_keep asked ran legal honest);
  blockers_named = blockers asked ran (legal_goes asked ran legal);
}
