use Rattle.aft_reply.proofs.Spaces.{words_of-cut}
use Rattle.aft_reply.proofs.split.first_word.Goals as goal

pub returns-in-Some : goal.returns-in-Some
returns-in-Some c = rw c.in-Some.is at (words_of-cut c.args.text.now c.split_once.result c.split_once.ensures.cases)

pub returns-in-None : goal.returns-in-None
returns-in-None c = rw c.in-None.is at (words_of-cut c.args.text.now c.split_once.result c.split_once.ensures.cases)
