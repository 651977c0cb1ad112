use Rattle.std.proofs.Common.{◌∷◌}
use Rattle.law_clients.proofs.Words.{by_word, comes_in_turn, its_line, words_go_on, words_skip}
use Rattle.law_clients.proofs.laws.words_run_in_order.Goals as goal

pub returns-clause-comes : goal.returns-clause-comes
returns-clause-comes c asked stand word rest line script differ left is =
    let it = its_line asked script differ word.client stand line is in
    comes_in_turn asked script differ stand line it.0 (word ∷ rest) rest left it.1 (by_word asked script differ stand line word rest is)

pub returns-clause-left : goal.returns-clause-left
returns-clause-left c asked stand word rest line script differ left is =
    let it = its_line asked script differ word.client stand line is in
    words_go_on asked script differ stand line it.0 (word ∷ rest) rest left it.1 (by_word asked script differ stand line word rest is)

pub returns-clause-none : goal.returns-clause-none
returns-clause-none c asked stand word rest script differ left none = words_skip asked script differ stand word rest left none
