use Rattle.std.specs.Prelude.{codes}
use Rattle.aft_model.specs.ReplyText.{blocker_words}
use Rattle.aft_reply.proofs.Spaced.{all_pieces}
use Rattle.aft_reply.proofs.writing.no_valid_version.Goals as goal

pub returns : goal.returns
returns c = all_pieces (codes "no-valid-version") _ blocker_words c.args.blocked.now c.loop-one.one-index c.loop-one-test.false c.loop-one.invariant
