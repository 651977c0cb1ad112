use Rattle.law_kept.proofs.Gives.{committed_among}
use Rattle.law_contents.proofs.Sound.{unmarked_record, unmarked_versions}
use Rattle.law_contents.proofs.laws.unmarked_commits_are_held.Goals as goal

pub returns-clause-record : goal.returns-clause-record
returns-clause-record c x at_first now history contents along lawful opened is unmarked = (unmarked_record at_first now history contents along lawful opened x (committed_among x history is) unmarked).1

pub returns-clause-versions : goal.returns-clause-versions
returns-clause-versions c x at_first now history contents along lawful opened is unmarked = unmarked_versions at_first now history contents along lawful opened x (committed_among x history is) unmarked
