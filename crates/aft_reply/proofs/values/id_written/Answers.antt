use Rattle.std.proofs.Common.{◌∙◌}
use Rattle.aft_reply.proofs.Ids.{id_written-read}
use Rattle.aft_reply.proofs.values.id_written.Goals as goal

pub returns-clause-value : goal.returns-clause-value
returns-clause-value c = c.ok.ensures.value ∙ id_written-read c.args.word.now c.read.result c.read.ensures.text c.read.ensures.time c.read.ensures.bytes c.read.ensures.reads
