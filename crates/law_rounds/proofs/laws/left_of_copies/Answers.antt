use Rattle.law_rounds.proofs.Copies.{copying, fenced, fencing, marker_scan, record_scan}
use Rattle.law_rounds.proofs.laws.left_of_copies.Goals as goal

pub returns-clause-records : goal.returns-clause-records
returns-clause-records c nodes after place listed by ends line = record_scan nodes ends by place after listed line

pub returns-clause-markers : goal.returns-clause-markers
returns-clause-markers c nodes after place listed by taken ends line = marker_scan nodes ends by taken place after listed line

pub returns-clause-versions : goal.returns-clause-versions
returns-clause-versions c nodes left by ends line = copying nodes ends by left line

pub returns-clause-fence : goal.returns-clause-fence
returns-clause-fence c nodes whole by ends line = fencing nodes ends by whole line

pub returns-clause-fenced : goal.returns-clause-fenced
returns-clause-fenced c nodes whole ends line = fenced nodes ends whole line
