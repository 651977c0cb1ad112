use Rattle.aft_reply.proofs.Graphic.{graphic_is_utf8}
use Rattle.aft_reply.proofs.words.graphic_text.Goals as goal

pub unreachable-requires : goal.unreachable-requires
unreachable-requires c = c.in-Err.ensures.cases.0 (graphic_is_utf8 c.args.bytes.now c.requires)
