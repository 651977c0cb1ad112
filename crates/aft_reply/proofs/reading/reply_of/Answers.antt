use Rattle.std.proofs.Common.{refl, sym}
use Rattle.aft_reply.proofs.reading.reply_of.Goals as goal

pub returns-in-Some-clause-value : goal.returns-in-Some-clause-value
returns-in-Some-clause-value c = rw (c.first_word.ensures, sym c.in-Some.ensures) c.by_head.ensures.value

pub returns-in-None-clause-value : goal.returns-in-None-clause-value
returns-in-None-clause-value c = rw (c.first_word.ensures, sym c.in-None.ensures) refl
