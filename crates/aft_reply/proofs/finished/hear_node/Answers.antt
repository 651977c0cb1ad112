use Rattle.indexmap.specs.IndexMap.{get}
use Rattle.aft_lines.specs.FinishedText.{answer_to}
use Rattle.aft_reply.specs.Heard.{same_asker}
use Rattle.aft_reply.proofs.Hearing.{heard-entry}
use Rattle.aft_reply.proofs.finished.hear_node.Goals as goal

pub loop-entry-preserved : goal.loop-entry-preserved
loop-entry-preserved c before heard =
    heard-entry (get same_asker c.loop-entry.answers) (get same_asker c.hear.new.answers) (λ line entry. answer_to line entry.by entry.answer) before c.args.entries.now c.loop-entry.entry-index c.entry-item.result
    c.loop-entry-test.true c.entry-item.is c.in_ok-hear.ensures (c.loop-entry.invariant before heard)
