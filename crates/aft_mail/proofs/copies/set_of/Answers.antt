use Rattle.std.proofs.Common.{◌∙◌}
use Rattle.std.specs.HashSet.{contains}
use Rattle.aft_id.specs.TxnId.{same_id}
use Rattle.aft_mail.proofs.Heard.{listed-more}
use Rattle.aft_mail.proofs.copies.set_of.Goals as goal

pub loop-id-preserved : goal.loop-id-preserved
loop-id-preserved c q =
    c.in_ok-insert.ensures.updates.0 q
    ∙ listed-more c.args.ids.now c.loop-id.id-index c.id-item.result q (contains same_id c.loop-id.set q) c.loop-id-test.true c.id-item.is (c.loop-id.invariant q)
