use Rattle.std.proofs.Common.{rules, arith}
use Rattle.aft_chron.proofs.Turns.{looks}
use Rattle.aft_chron.proofs.chron.steps.wait.Goals as goal

pub load-requires : goal.load-requires
load-requires g c = (search rules, omega arith, looks _ _ _ _ _ _ _ c.args.number (search rules))
