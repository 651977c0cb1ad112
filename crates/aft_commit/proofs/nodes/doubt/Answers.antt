use Rattle.aft_commit.proofs.NodeSteps.{doubt_step}
use Rattle.aft_commit.proofs.nodes.doubt.Goals as goal

pub returns-clause-steps : goal.returns-clause-steps
returns-clause-steps c clock hold aborts may = doubt_step clock c.args.front c.args.by hold c.args.attempt c.args.node.now c.doubt.new.self c.requires.place aborts c.args.reply c.doubt.ensures may
