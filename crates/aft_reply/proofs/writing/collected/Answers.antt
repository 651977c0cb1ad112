use Rattle.std.specs.Prelude.{codes}
use Rattle.aft_model.specs.ReplyText.{judged_words}
use Rattle.aft_reply.proofs.Spaced.{all_pieces}
use Rattle.aft_reply.proofs.writing.collected.Goals as goal

pub returns : goal.returns
returns c = all_pieces (codes "collected") _ judged_words c.args.judged.now c.loop-one.one-index c.loop-one-test.false c.loop-one.invariant
