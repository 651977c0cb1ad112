use Rattle.std.proofs.Common.{rules, arith}
use Rattle.aft_chron.proofs.Parts.{splits}
use Rattle.aft_chron.proofs.chron.steps.split.Goals as goal

pub split_seat-requires : goal.split_seat-requires
split_seat-requires g c = (search rules, omega arith, splits _ _ _ _ _ _ _ (search rules) (search rules) (search rules))
