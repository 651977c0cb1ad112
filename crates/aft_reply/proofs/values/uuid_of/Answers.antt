use Rattle.aft_reply.proofs.Ids.{uuid_of-parse}
use Rattle.aft_reply.proofs.values.uuid_of.Goals as goal

pub returns-in-Ok-clause-value : goal.returns-in-Ok-clause-value
returns-in-Ok-clause-value c = rw c.in-Ok.is at (uuid_of-parse c.args.word.now c.try_parse.result c.try_parse.ensures.ok c.try_parse.ensures.bytes)

pub returns-in-Err-clause-value : goal.returns-in-Err-clause-value
returns-in-Err-clause-value c = rw c.in-Err.is at (uuid_of-parse c.args.word.now c.try_parse.result c.try_parse.ensures.ok c.try_parse.ensures.bytes)
