use Rattle.aft_select.proofs.Repeats.{absent_atomic}
use Rattle.aft_select.proofs.laws.absent_keeps_reads_atomic.Goals as goal

pub returns : goal.returns
returns c = absent_atomic
