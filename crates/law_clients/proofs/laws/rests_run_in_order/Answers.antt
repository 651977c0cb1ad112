use Rattle.std.proofs.Common.{[]}
use Rattle.law_clients.proofs.Words.{by_number, comes_in_turn, first_line, words_go_on}
use Rattle.law_clients.proofs.laws.rests_run_in_order.Goals as goal

pub returns-clause-comes : goal.returns-clause-comes
returns-clause-comes c asked stand line script differ left is =
    let it = first_line asked script differ stand line is in
    comes_in_turn asked script differ stand line it.0 [] [] left it.1 (by_number asked script differ stand line is)

pub returns-clause-left : goal.returns-clause-left
returns-clause-left c asked stand line script differ left is =
    let it = first_line asked script differ stand line is in
    words_go_on asked script differ stand line it.0 [] [] left it.1 (by_number asked script differ stand line is)
