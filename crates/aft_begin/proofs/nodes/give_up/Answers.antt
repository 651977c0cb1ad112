use Rattle.aft_begin.proofs.NodeSteps.{give_up_step}
use Rattle.aft_begin.proofs.nodes.give_up.Goals as goal

pub returns-clause-steps : goal.returns-clause-steps
returns-clause-steps c may = give_up_step c.args.aim c.args.front c.args.by c.args.uuid c.args.attempt c.args.node.now c.unadmitted.new.self c.requires.place c.args.reply c.requires.may c.unadmitted.ensures may
