use Rattle.law_attempts.proofs.Attempts.{attempts_more, part_more, rows_more}
use Rattle.law_attempts.proofs.laws.rows_follow.Goals as goal

pub returns-clause-rows : goal.returns-clause-rows
returns-clause-rows c = rows_more

pub returns-clause-attempts : goal.returns-clause-attempts
returns-clause-attempts c = attempts_more

pub returns-clause-part : goal.returns-clause-part
returns-clause-part c = part_more
