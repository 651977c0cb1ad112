use Rattle.aft_boot.proofs.NodeTurns.{last_turn}
use Rattle.aft_boot.proofs.turns.close.Goals as goal

pub returns-clause-steps : goal.returns-clause-steps
returns-clause-steps c may = last_turn c.args.by c.args.front c.args.node.now c.boot_end.new.self c.args.inc c.args.end c.boot_end.result may c.boot_end.ensures.runs c.boot_end.ensures.over
