use Rattle.std.proofs.Common.{rules, arith}
use Rattle.aft_chron.proofs.Parts.{joins}
use Rattle.aft_chron.proofs.Turns.{tells}
use Rattle.aft_chron.proofs.chron.steps.meet.Goals as goal

pub join_seat-requires : goal.join_seat-requires
join_seat-requires g c = (search rules, search rules, search rules, omega arith, joins _ _ _ _ _ _ _ _ (search rules) (search rules) (search rules) (search rules))

pub load-requires : goal.load-requires
load-requires g c = (search rules, omega arith, tells _ _ _ _ _ _ _)
