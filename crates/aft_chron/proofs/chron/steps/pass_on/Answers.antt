use Rattle.std.proofs.Common.{rules, arith}
use Rattle.aft_chron.proofs.Turns.{passes}
use Rattle.aft_chron.proofs.chron.steps.pass_on.Goals as goal

pub store-requires : goal.store-requires
store-requires g c = (search rules, omega arith, passes _ _ _ _ _ _ _ c.args.number c.args.value.now.value (search rules) (search rules) (search rules) (search rules) (search rules))
