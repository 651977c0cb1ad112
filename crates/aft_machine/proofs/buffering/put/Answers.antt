use Rattle.aft_machine.proofs.PutTurn.{steps}
use Rattle.aft_machine.proofs.buffering.put.Goals as goal

pub returns-clause-steps : goal.returns-clause-steps
returns-clause-steps c asked given = steps c.args.by c.args.front c.args.hold.now c.args.key c.args.value asked given c.args.node.now c.put.new.self c.requires.place c.requires.attempt c.put.ensures
