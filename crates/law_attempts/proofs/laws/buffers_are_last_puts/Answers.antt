use Rattle.law_attempts.proofs.Attempts.{few_keys, fixed_keys, fixed_uuid, same_buffer}
use Rattle.law_attempts.proofs.Buffers.{buffer_ascends, buffered_last}
use Rattle.law_attempts.proofs.laws.buffers_are_last_puts.Goals as goal

pub returns-clause-last : goal.returns-clause-last
returns-clause-last c key a part = buffered_last a key part

pub returns-clause-ascends : goal.returns-clause-ascends
returns-clause-ascends c = buffer_ascends

pub returns-clause-few : goal.returns-clause-few
returns-clause-few c node capacity inc a history legal serve = few_keys node capacity inc history legal serve a

pub returns-clause-stays : goal.returns-clause-stays
returns-clause-stays c node capacity inc a history more = same_buffer node capacity inc a history more

pub returns-clause-keys : goal.returns-clause-keys
returns-clause-keys c node capacity inc a x history legal serve = fixed_keys node capacity inc history legal serve a x

pub returns-clause-uuid : goal.returns-clause-uuid
returns-clause-uuid c node capacity inc a x history legal serve = fixed_uuid node capacity inc history legal serve a x
