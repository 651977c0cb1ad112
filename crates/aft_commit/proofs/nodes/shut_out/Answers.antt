use Rattle.aft_commit.proofs.NodeSteps.{shut_step}
use Rattle.aft_commit.proofs.nodes.shut_out.Goals as goal

pub returns-clause-steps : goal.returns-clause-steps
returns-clause-steps c clock hold aborts may = shut_step clock c.args.front c.args.by hold c.args.attempt c.args.node.now c.answer.new.self c.requires.place aborts c.answer.ensures
