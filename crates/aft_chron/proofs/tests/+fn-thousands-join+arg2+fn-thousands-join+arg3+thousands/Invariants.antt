use Rattle.std.proofs.Common.{◌+◌, ◌*◌}
use Rattle.aft_chron.proofs.tests.+fn-thousands-join+arg2+fn-thousands-join+arg3+thousands.Given as goal

-- each thread has fewer parts than the one that started it
abbrev pub decreases-join+arg2 : goal.decreases-join+arg2
decreases-join+arg2 g l = 2 * l.kept + 1

abbrev pub decreases-join+arg3 : goal.decreases-join+arg3
decreases-join+arg3 g l = 2 * l.half + 1

abbrev pub decreases-thousands : goal.decreases-thousands
decreases-thousands g l = 2 * l.parts
