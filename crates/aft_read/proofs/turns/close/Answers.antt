use Rattle.aft_read.proofs.Ending.{steps}
use Rattle.aft_read.proofs.turns.close.Goals as goal

pub returns-clause-steps : goal.returns-clause-steps
returns-clause-steps c hold asked here may = steps c.args.by c.args.front hold asked c.args.key c.args.attempt c.args.id c.args.got c.args.place c.args.node.now c.value.new.self here c.requires.place may c.value.ensures.open c.value.ensures.over
