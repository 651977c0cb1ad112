use Rattle.std.proofs.Common.{◌∙◌}
use Rattle.aft_ledger.proofs.ReadIds.{ids_step}
use Rattle.aft_ledger.proofs.origin.read_ids.Goals as goal

pub loop-pair-preserved : goal.loop-pair-preserved
loop-pair-preserved c = c.in_ok-note_id.ensures ∙ ids_step c.args.pairs.now c.loop-pair.pair-index c.pair-item.result c.loop-pair.ids.keys c.loop-pair-test.true c.pair-item.is c.loop-pair.invariant
