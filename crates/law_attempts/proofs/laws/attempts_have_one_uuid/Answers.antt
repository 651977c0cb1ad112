use Rattle.law_attempts.proofs.Attempts.{alone, has_name, named, same_uuid}
use Rattle.law_attempts.proofs.laws.attempts_have_one_uuid.Goals as goal

pub returns-clause-one : goal.returns-clause-one
returns-clause-one c node capacity inc a uuid history legal serve = named node capacity inc history legal serve a uuid

pub returns-clause-its : goal.returns-clause-its
returns-clause-its c node capacity inc a history legal serve = has_name node capacity inc history legal serve a

pub returns-clause-alone : goal.returns-clause-alone
returns-clause-alone c node capacity inc a b history legal serve = alone node capacity inc history legal serve a b

pub returns-clause-stays : goal.returns-clause-stays
returns-clause-stays c node capacity inc a history more = same_uuid node capacity inc a history more
