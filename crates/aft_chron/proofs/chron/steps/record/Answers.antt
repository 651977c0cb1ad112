use Rattle.std.proofs.Common.{rules, arith}
use Rattle.aft_chron.proofs.Turns.{records}
use Rattle.aft_chron.proofs.chron.steps.record.Goals as goal

pub fetch_add-requires : goal.fetch_add-requires
fetch_add-requires g c = (search rules, omega arith, records _ _ _ _ _ _ _ c.args.number c.args.value.now.value (search rules) (search rules) (search rules))
