use Rattle.aft_boot.proofs.Crashing.{goes_down}
use Rattle.aft_boot.proofs.crash.go_down.Goals as goal

pub returns-clause-steps : goal.returns-clause-steps
returns-clause-steps c = goes_down c.args.by c.args.front c.args.node.now c.down.new.self c.args.fenced c.down.ensures
