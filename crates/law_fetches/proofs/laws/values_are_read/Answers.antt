use Rattle.law_fetches.proofs.AllGets.{all_recorded, all_repeat}
use Rattle.law_fetches.proofs.laws.values_are_read.Goals as goal

pub returns-clause-recorded : goal.returns-clause-recorded
returns-clause-recorded c node capacity door history of_node lawful beside backs opens behind = all_recorded node capacity of_node door lawful history beside backs opens behind

pub returns-clause-repeats : goal.returns-clause-repeats
returns-clause-repeats c node capacity door history of_node lawful beside backs opens behind = all_repeat node capacity of_node door lawful history beside backs opens behind
