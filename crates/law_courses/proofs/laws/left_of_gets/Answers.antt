use Rattle.law_courses.proofs.Gets.{fetched, fetching}
use Rattle.law_courses.proofs.laws.left_of_gets.Goals as goal

pub returns-clause-fetching : goal.returns-clause-fetching
returns-clause-fetching c key nodes its id a ends line = fetching key nodes ends a its id line

pub returns-clause-fetched : goal.returns-clause-fetched
returns-clause-fetched c key nodes its id place a ends line = fetched key nodes ends a its id place line
