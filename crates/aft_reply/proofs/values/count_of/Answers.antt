use Rattle.aft_reply.proofs.Numbers.{count_of-parse}
use Rattle.aft_reply.proofs.values.count_of.Goals as goal

pub returns-in-Ok : goal.returns-in-Ok
returns-in-Ok c = rw c.in-Ok.is at (count_of-parse c.args.word.now c.parse.result c.parse.ensures.value.0)

pub returns-in-Err : goal.returns-in-Err
returns-in-Err c = rw c.in-Err.is at (count_of-parse c.args.word.now c.parse.result c.parse.ensures.value.0)
