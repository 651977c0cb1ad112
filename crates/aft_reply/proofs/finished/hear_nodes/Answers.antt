use Rattle.indexmap.specs.IndexMap.{get}
use Rattle.aft_reply.specs.Heard.{node_answers, same_asker}
use Rattle.aft_reply.proofs.Hearing.{heard-list}
use Rattle.aft_reply.proofs.finished.hear_nodes.Goals as goal

pub loop-entries-preserved : goal.loop-entries-preserved
loop-entries-preserved c before heard =
    heard-list (get same_asker c.loop-entries.answers) (get same_asker c.hear_node.new.answers) node_answers before c.args.nodes.now c.loop-entries.entries-index c.entries-item.result
    c.loop-entries-test.true c.entries-item.is (rw c.as_slice.ensures at c.in_ok-hear_node.ensures) (c.loop-entries.invariant before heard)
