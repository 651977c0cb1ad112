use Rattle.law_attempts.proofs.Tables.{none_of_uuid, pinned_in_rows, row_of_number, row_of_uuid}
use Rattle.law_attempts.proofs.laws.rows_tell.Goals as goal

pub returns-clause-number : goal.returns-clause-number
returns-clause-number c node capacity inc a history legal serve = row_of_number node capacity inc history legal serve a

pub returns-clause-uuid : goal.returns-clause-uuid
returns-clause-uuid c node capacity inc uuid history legal serve = none_of_uuid node capacity inc history legal serve uuid

pub returns-clause-pinned : goal.returns-clause-pinned
returns-clause-pinned c = pinned_in_rows

pub returns-clause-found : goal.returns-clause-found
returns-clause-found c node capacity inc uuid row history legal serve = row_of_uuid node capacity inc history legal serve uuid row
